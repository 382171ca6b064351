-- A call over lent words determines its answer and what everything lent holds.
use Rattle.std.specs.Prelude.{Result}
use mathlib.Core.Path.{◌≡◌, sym, ap, ◌∙◌}
use mathlib.Core.Bool.{cond}
use mathlib.Core.List.{List}
use Prim.Native.Nat.{ℕ}
use lib.Dec.{eqb}
use Rattle.refusals.specs.declared.order.Refusal.{Refusal}
use Rattle.refusals.specs.Refusal.{Test}
use Rattle.refusals.specs.Outcome.{answer_of}
use Rattle.refusals.proofs.Outcomes.{answer-one}
use Rattle.words_call.specs.Lent.{Lent}

pub lent-determined :
    {A : Type 0} {tests : List Test} {answer : ℕ} {new old now now' : A} {r r' : ℕ} → Lent tests answer new old r now → Lent tests answer new old r' now'
    → (r ≡ r') × (now ≡ now')
lent-determined {A} {tests} {answer} {new} {old} a b =
    let e = a.number ∙ sym b.number in
    (e, a.held ∙ ap (λ (n : ℕ). cond (eqb n 0) new old) e ∙ sym b.held)

-- and so its result
pub lent-determined-result :
    {A : Type 0} {tests : List Test} {answer : ℕ} {new old now now' : A} {r r' : Result (Unit {0}) Refusal} → Lent tests answer new old (answer_of r) now
    → Lent tests answer new old (answer_of r') now' → (r ≡ r') × (now ≡ now')
lent-determined-result {A} {tests} {answer} {new} {old} {now} {now'} {r} {r'} a b = let w = lent-determined a b in (answer-one r r' w.0, w.1)
