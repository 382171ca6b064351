-- Two outcomes that the promise of `path` allows coincide.
use Rattle.std.specs.Prelude.{Result}
use mathlib.Core.Path.{◌≡◌, sym, ◌∙◌}
use mathlib.Core.List.{List}
use Prim.Native.Nat.{ℕ}
use lib.IntN.{ℤ}
use Rattle.refusals.specs.declared.order.Refusal.{Refusal}
use Rattle.refusals.specs.Outcome.{answer_of}
use Rattle.refusals.proofs.Outcomes.{answer-one}
use Rattle.path_lay.specs.Laying.{Lists}
use Rattle.path_whole.specs.Writing.{WritesPath}

pub determined : (xs ys : List ℤ) (marks es : List ℕ) (l : Lists) {r r' : ℕ} {m m' : Lists}
    → WritesPath xs ys marks es l r m → WritesPath xs ys marks es l r' m' → (r ≡ r') × (m ≡ m')
determined xs ys marks es l a b = (a.answer ∙ sym b.answer, a.lists ∙ sym b.lists)

-- and so do two results, with the lists left
pub determined-result : (xs ys : List ℤ) (marks es : List ℕ) (l : Lists) {r r' : Result (Unit {0}) Refusal} {m m' : Lists}
    → WritesPath xs ys marks es l (answer_of r) m → WritesPath xs ys marks es l (answer_of r') m' → (r ≡ r') × (m ≡ m')
determined-result xs ys marks es l {r} {r'} a b = let w = determined xs ys marks es l a b in (answer-one r r' w.0, w.1)
