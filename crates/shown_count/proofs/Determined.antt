-- Two outcomes that a promise allows coincide.
use Rattle.std.specs.Prelude.{Result}
use mathlib.Core.Path.{◌≡◌, refl, sym, ◌∙◌}
use mathlib.Core.List.{List}
use Prim.Native.Nat.{ℕ}
use lib.IntN.{ℤ}
use Rattle.refusals.specs.declared.order.Refusal.{Refusal}
use Rattle.refusals.specs.Outcome.{answer_of}
use Rattle.refusals.proofs.Outcomes.{with-answer-one, answer-one}
use Rattle.shown_count.specs.declared.count.Shown as Counts
use Rattle.shown_count.specs.Answer.{Shown, shown_of}
use Rattle.shown_count.specs.Count.{CountsShown, ShownLent}

-- `count_shown`
pub determined : (xs ys : List ℤ) (marks es : List ℕ) (m : ℤ) (r s : Shown) → CountsShown xs ys marks es m r → CountsShown xs ys marks es m s → r ≡ s
determined xs ys marks es m r s a b = a ∙ sym b

-- `lend_shown`
pub lent-determined : (xs ys : List ℤ) (marks es : List ℕ) (m : ℤ) (blacks : ℕ) (number : ℤ) {r r' b b' : ℕ} {n n' : ℤ}
    → ShownLent xs ys marks es m blacks number r b n → ShownLent xs ys marks es m blacks number r' b' n' → (r ≡ r') × (b ≡ b') × (n ≡ n')
lent-determined xs ys marks es m blacks number a b = (a.answer ∙ sym b.answer, a.black_is ∙ sym b.black_is, a.euler_is ∙ sym b.euler_is)

-- ---- what the calls hand back
-- the record tells a result from every other
pub shown-one : (r s : Result Counts.Shown Refusal) → shown_of r ≡ shown_of s → r ≡ s
shown-one =
    with-answer-one shown_of (λ (x : Shown). x.answer) (λ x. refl) (λ r. refl) (λ x y e. λ j. record { black = (e j).black; euler = (e j).euler })

-- so two results that a promise allows coincide
-- `count_shown`
pub determined-result : (xs ys : List ℤ) (marks es : List ℕ) (m : ℤ) {r s : Result Counts.Shown Refusal}
    → CountsShown xs ys marks es m (shown_of r) → CountsShown xs ys marks es m (shown_of s) → r ≡ s
determined-result xs ys marks es m {r} {s} a b = shown-one r s (determined xs ys marks es m (shown_of r) (shown_of s) a b)

-- `lend_shown`
pub lent-determined-result :
    (xs ys : List ℤ) (marks es : List ℕ) (m : ℤ) (blacks : ℕ) (number : ℤ) {r r' : Result (Unit {0}) Refusal} {b b' : ℕ} {n n' : ℤ}
    → ShownLent xs ys marks es m blacks number (answer_of r) b n → ShownLent xs ys marks es m blacks number (answer_of r') b' n'
    → (r ≡ r') × (b ≡ b') × (n ≡ n')
lent-determined-result xs ys marks es m blacks number {r} {r'} a b =
    let e = lent-determined xs ys marks es m blacks number a b in (answer-one r r' e.0, e.1, e.2)
