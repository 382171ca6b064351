-- A call over lent edges, by what their test tells.
use mathlib.Core.Path.{◌≡◌, refl, sym, ap, ◌∙◌}
use mathlib.Core.Bool.{Bool, true, cond}
use mathlib.Core.List.{List}
use Prim.Native.Nat.{ℕ, zero, suc, ◌<◌, ◌≤◌}
use native.Mathlib.Omega.{arith}
use borrow.Author.Tests.{leb-true}
use lib.Dec.{eqb, leb}
use lib.IntN.{ℤ}
use Rattle.refusals.specs.Refusal.{Test, refusal, answered}
use Rattle.refusals.proofs.Tests.{and_first, and_second, all_hold}
use Rattle.axis.specs.Limits.{most_edges, most_pos}
use Rattle.axis.specs.Refusals.{edges_indices, edges_numbers}
use Rattle.axis.specs.Accepted.{AxisWithin}
use Rattle.axis.proofs.Acceptance.{axis-within}
use Rattle.words.specs.Edge.{edges_in}
use Rattle.words_shape.specs.Shape.{edges_shown}
use Rattle.words_call.specs.Lent.{Lent, refused_or, edges_front, edges_of}
use Rattle.words_call.proofs.Kept.{passed, not_new}
use Rattle.words_call.proofs.Tested.{tested-holds}
use Rattle.words_edge.specs.Whole.{Whole}
use Rattle.words_edge.proofs.Wholes.{shown-whole, edges-len}
use Rattle.words_edge_test.specs.Held.{tested}

-- ---- a call that is its refusal, then its work
-- by what is answered to the words that it is lent: the refusal by the tests in front, or t, which is the refusal by its own tests behind them
module _ (fronts : List Test) (t : ℕ) {r : ℕ} (e : r ≡ refused_or fronts t) {R A : Type 0} (answer : R → ℕ) (new : R → A) (tests : List Test) (refused : ℕ → R)
    (result : R)
    (number : (k : ℕ) → answer (refused k) ≡ k) (none : answer result ≡ 0) (same : refusal fronts ≡ 0 → refusal tests ≡ t) where
  abbrev call : R
  call = answered (refusal tests) refused result

  -- its answer is its refusal
  answers : (k : ℕ) → answer (answered k refused result) ≡ k
  answers zero = none
  answers (suc k) = number (suc k)

  numbered : r ≡ refused_or fronts (answer call)
  unfolding refused_or
  numbered = e ∙ by (refusal fronts) refl
    where
      by : (k : ℕ) → refusal fronts ≡ k → answered k (λ (i : ℕ). i) t ≡ answered k (λ (i : ℕ). i) (answer call)
      by zero q = sym (answers (refusal tests) ∙ same q)
      by (suc k) q = refl

  -- it refuses
  pub lent-refused : {old : A} → 0 < r → Lent fronts (answer call) (new call) old r old
  lent-refused {old} h = record { number = numbered; held = by r h }
    where
      by : (k : ℕ) → 0 < k → old ≡ cond (eqb k 0) (new call) old
      by zero h = absurd (omega arith)
      by (suc k) h = sym (not_new k (new call) old)

  -- it does its work
  pub lent-done : {old now : A} → r ≤ 0 → now ≡ new result → Lent fronts (answer call) (new call) old 0 now
  lent-done {old} {now} h q =
      let z : 0 ≡ r = omega arith in
      let p = passed fronts t (z ∙ e) in
      record { number = z ∙ numbered; held = q ∙ sym (ap (λ (k : ℕ). new (answered k refused result)) (same p.0 ∙ p.1)) }

-- ---- no refusal
-- what a call may use then: words that can be read and written in place, accepted edges, and its own tests
pub record Ready (ws : List ℤ) (own : ℕ) (named near : Bool) : Type 0 where
  pub whole : Whole ws
  pub axis : AxisWithin most_pos (edges_of ws)
  pub right : own ≡ 0
  pub named_hold : named ≡ true
  pub near_hold : near ≡ true

module _ (ws : List ℤ) (others : Bool) (own : ℕ) (named near : Bool) {r : ℕ}
    (e : r ≡ refused_or (edges_front ws others) (tested (edges_of ws) own named near)) where
  front-holds : r ≤ 0 → refusal (edges_front ws others) ≡ 0
  front-holds h = let z : 0 ≡ r = omega arith in (passed (edges_front ws others) _ (z ∙ e)).0

  none-refused : r ≤ 0 → tested (edges_of ws) own named near ≡ 0
  none-refused h = let z : 0 ≡ r = omega arith in (passed (edges_front ws others) _ (z ∙ e)).1

  short : refusal (edges_front ws others) ≡ 0 → leb (edges_of ws).len most_edges ≡ true
  unfolding edges_front
  short q = ap (λ (k : ℕ). leb k most_edges) (edges-len ws) ∙ (all_hold (edges_front ws others) refl q).1.0

  pub ready : r ≤ 0 → Ready ws own named near
  unfolding edges_front
  ready h =
      let q = front-holds h in
      let t = all_hold (edges_front ws others) refl q in
      let g = tested-holds own _ _ (none-refused h) in
      record {
        whole = shown-whole ws (and_first (edges_shown ws) others t.1.1.0) (leb-true (edges_in ws) most_edges t.1.0);
        axis = axis-within (edges_of ws) (short q) (and_first _ named g.indices) (and_first _ near g.numbers);
        right = g.right;
        named_hold = and_second (edges_indices (edges_of ws)) named g.indices;
        near_hold = and_second (edges_numbers (edges_of ws)) near g.numbers;
      }

  -- none by the tests of a call, which are those
  pub unrefused : (tests : List Test) → (leb (edges_of ws).len most_edges ≡ true → refusal tests ≡ tested (edges_of ws) own named near) → r ≤ 0
      → refusal tests ≡ 0
  unrefused tests same h = same (short (front-holds h)) ∙ none-refused h

  -- ---- a call with such tests
  module _ {R A : Type 0} (answer : R → ℕ) (new : R → A) (tests : List Test) (refused : ℕ → R) (result : R) (number : (k : ℕ) → answer (refused k) ≡ k)
      (none : answer result ≡ 0)
      (same : leb (edges_of ws).len most_edges ≡ true → refusal tests ≡ tested (edges_of ws) own named near) where
    -- it refuses
    pub call-refused : {old : A} → 0 < r → Lent (edges_front ws others) (answer (answered (refusal tests) refused result))
        (new (answered (refusal tests) refused result)) old r old
    call-refused h =
        lent-refused (edges_front ws others) (tested (edges_of ws) own named near) e answer new tests refused result number none (λ q. same (short q)) h

    -- it does its work
    pub call-done : {old now : A} → r ≤ 0 → now ≡ new result → Lent (edges_front ws others) (answer (answered (refusal tests) refused result))
        (new (answered (refusal tests) refused result)) old 0 now
    call-done h q =
        lent-done (edges_front ws others) (tested (edges_of ws) own named near) e answer new tests refused result number none (λ q. same (short q)) h q
