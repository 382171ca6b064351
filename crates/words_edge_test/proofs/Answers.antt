-- The answer to lent edges that pass the one loop.
use mathlib.Core.Path.{◌≡◌, refl, sym, ◌∙◌}
use mathlib.Core.Bool.{Bool, true, false, ◌&&◌}
use mathlib.Core.Logic.{◌⊎◌, ⊎_elim}
use mathlib.Core.List.{List}
use Prim.Native.Nat.{ℕ, ◌%◌}
use native.Mathlib.Omega.{arith}
use borrow.Author.Tests.{eqb-true, eq-eqb, ne_eqb}
use lib.Dec.{eqb}
use lib.ListN.{length}
use lib.IntN.{ℤ}
use Rattle.std.specs.Prelude.{Result, Ok, Err}
use Rattle.std.specs.Result.{is_ok}
use Rattle.refusals.specs.declared.order.Refusal.{Refusal}
use Rattle.refusals.specs.Refusal.{refusal, or_refused}
use Rattle.refusals.specs.Outcome.{number_of, answer_of, Required}
use Rattle.refusals.proofs.Outcomes.{number-above, then-last}
use Rattle.refusals.proofs.Tests.{none-tested, and_first, and_second}
use Rattle.words.specs.Edge.{edge_size}
use Rattle.words_call.specs.Lent.{refused_or, edges_front, edges_of}
use Rattle.words_call.proofs.Holding.{and_both}
use Rattle.words_call.proofs.Tested.{front-tested}
use Rattle.words_call.proofs.Whole.{edges_long}
use Rattle.words_edge_test.specs.Held.{Held, tested}

-- ---- two tests in one condition
-- both hold
pub both-hold : {a b x y : Bool} → a ≡ x → b ≡ y → (a ≡ true) × (b ≡ true) → (x && y) ≡ true
both-hold p q h = λ i. (sym p ∙ h.0) i && (sym q ∙ h.1) i

-- one does not
pub one-fails : {a b x y : Bool} → a ≡ x → b ≡ y → ((a ≡ true) × (b ≡ false)) ⊎ (a ≡ false) → (x && y) ≡ false
one-fails {a} {b} {x} {y} p q h =
    ⊎_elim (λ (w : (a ≡ true) × (b ≡ false)). λ i. (sym p ∙ w.0) i && (sym q ∙ w.1) i) (λ (w : a ≡ false). λ i. (sym p ∙ w) i && y) h

-- the first decides, or leaves it to the second
pub second-asked : {a b x y r : Bool} → a ≡ true → r ≡ b → a ≡ x → b ≡ y → r ≡ (x && y)
second-asked t e p q = e ∙ (λ i. (sym t ∙ p) i && q i)

pub first-fails : {a x r : Bool} (y : Bool) → a ≡ false → r ≡ a → a ≡ x → r ≡ (x && y)
first-fails y t e p = e ∙ t ∙ (λ i. (sym t ∙ p) i && y)

-- ---- a call's own outcome
-- it is no refusal where its answer is 0
pub none-own : (own : Result (Unit {0}) Refusal) → is_ok own ≡ eqb (answer_of own) 0
none-own (Ok x) = refl
none-own (Err r) = sym (ne_eqb (number_of r) 0 (λ e. let h = number-above r in omega arith))

-- and that of one test is its refusal, or 0
pub own-required : {g h : Bool} {r : Refusal} {o : Result (Unit {0}) Refusal} → Required g r o → g ≡ h → answer_of o ≡ or_refused 0 h (number_of r)
unfolding refusal or_refused
own-required q e = then-last none-tested q e

pub held-tested : (ws : List ℤ) (others : Bool) (own : ℕ) (named passed : Bool) → Held ws → (rest : Bool)
    → rest ≡ ((others && eqb own 0) && (named && passed)) → rest ≡ true
    → 0 ≡ refused_or (edges_front ws others) (tested (edges_of ws) own named passed)
unfolding edges_front
held-tested ws others own named passed h rest q t =
    let a = and_first (others && eqb own 0) _ (sym q ∙ t) in
    let b = and_second (others && eqb own 0) _ (sym q ∙ t) in
    let l = edges_long ws h.words in
    front-tested _ _ _ own _ _ (eq-eqb (length ws % edge_size) 0 (omega (arith, l))) h.few (and_both _ _ h.words (and_first others _ a))
    (record {
      right = eqb-true own 0 (and_second others _ a);
      indices = and_both _ _ h.indices (and_first named _ b);
      numbers = and_both _ _ h.numbers
          (and_second named _ b);
    })
