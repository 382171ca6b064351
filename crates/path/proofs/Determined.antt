-- Two outcomes that a promise allows coincide.
use Rattle.std.specs.Prelude.{Option, Some, None, Result, Ok}
use mathlib.Core.Path.{◌≡◌, refl, sym, ◌∙◌, ap}
use mathlib.Core.List.{List}
use Prim.Native.Nat.{ℕ}
use lib.Ieee.{Float}
use lib.IntN.{ℤ}
use Rattle.refusals.specs.declared.order.Refusal.{Refusal}
use Rattle.refusals.specs.Outcome.{answer_of}
use Rattle.refusals.proofs.Outcomes.{with-answer-one, answer-one}
use Rattle.path_trip.specs.declared.step.PathStep.{PathStep}
use Rattle.path.specs.declared.hand.Cursor.{Cursor}
use Rattle.path.specs.Answer.{Handed, handed_of}
use Rattle.path.specs.Handing.{HandsStep}
use Rattle.path.specs.Lending.{StepLent}
use Rattle.path.specs.Lending as Lending

-- `path_step`
pub determined : (xs ys : List ℤ) (marks es : List ℕ) (k : ℕ) (r s : Handed) → HandsStep xs ys marks es k r → HandsStep xs ys marks es k s → r ≡ s
determined xs ys marks es k r s a b = a ∙ sym b

-- `lend_step`
pub lent-determined :
    (xs ys : List ℤ) (marks es : List ℕ) (cursor kind : ℕ) (places : List Float) (next : ℕ) {r r' d d' n n' : ℕ} {l l' : List Float}
    → StepLent xs ys marks es cursor kind places next r d l n → StepLent xs ys marks es cursor kind places next r' d' l' n'
    → (r ≡ r') × (d ≡ d') × (l ≡ l') × (n ≡ n')
lent-determined xs ys marks es cursor kind places next a b =
    (a.answer ∙ sym b.answer, a.kind_is ∙ sym b.kind_is, a.places_are ∙ sym b.places_are, a.next_is ∙ sym b.next_is)

-- ---- what the calls hand back
-- what is handed out tells a result from every other
pub handed-one : (r s : Result (Option (PathStep × Cursor)) Refusal) → handed_of r ≡ handed_of s → r ≡ s
handed-one = with-answer-one handed_of Lending.answer_of told (λ r. refl) held
  where
    told : (x : Option (PathStep × Cursor)) → Lending.answer_of (handed_of (Ok x)) ≡ 0
    told None = refl
    told (Some p) = refl

    held : (x y : Option (PathStep × Cursor)) → handed_of (Ok x) ≡ handed_of (Ok y) → x ≡ y
    held None None e = refl
    held None (Some q) e = absurd cc
    held (Some p) None e = absurd cc
    held (Some p) (Some q) e = let a : p.0 ≡ q.0 = cc in let b : p.1 ≡ q.1 = cc in ap Some (λ j. (a j, b j))

-- so two results that a promise allows coincide
-- `path_step`
pub determined-result : (xs ys : List ℤ) (marks es : List ℕ) (k : ℕ) {r s : Result (Option (PathStep × Cursor)) Refusal}
    → HandsStep xs ys marks es k (handed_of r) → HandsStep xs ys marks es k (handed_of s) → r ≡ s
determined-result xs ys marks es k {r} {s} a b = handed-one r s (determined xs ys marks es k (handed_of r) (handed_of s) a b)

-- `lend_step`
pub lent-determined-result :
    (xs ys : List ℤ) (marks es : List ℕ) (cursor kind : ℕ) (places : List Float) (next : ℕ) {r r' : Result (Unit {0}) Refusal} {d d' n n' : ℕ}
    {l l' : List Float}
    → StepLent xs ys marks es cursor kind places next (answer_of r) d l n → StepLent xs ys marks es cursor kind places next (answer_of r') d' l' n'
    → (r ≡ r') × (d ≡ d') × (l ≡ l') × (n ≡ n')
lent-determined-result xs ys marks es cursor kind places next {r} {r'} a b =
    let e = lent-determined xs ys marks es cursor kind places next a b in (answer-one r r' e.0, e.1, e.2, e.3)
