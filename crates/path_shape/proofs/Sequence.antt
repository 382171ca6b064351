-- Stepping from cursor 0 until finished yields the path, each step once and in order, and so what one call for the whole path writes.
use mathlib.Core.Path.{◌≡◌, refl, sym, ap, ◌∙◌}
use mathlib.Core.List.{List, ◌∷◌}
use Prim.Native.Nat.{ℕ, zero, suc, ◌+◌, ◌≤◌, ◌<◌}
use native.Mathlib.Omega.{arith}
use borrow.Author.Tests.{lt-ltb, le-ltb}
use mathlib.Core.Logic.{⊎_elim}
use lib.IntN.{ℤ}
use lib.ListN.{length, get_or, drop, drop_of_length-le}
use Rattle.signed.proofs.Signed.{lt-or-le}
use Rattle.refusals.specs.Refusal.{refusal, answered}
use Rattle.weak.proofs.Refusals.{drop-one}
use Rattle.path_trip.specs.declared.step.PathStep.{PathStep}
use Rattle.path_trip.specs.declared.step.PathStep.TheVariants.{Close}
use Rattle.path_trip.specs.Path.{points, path}
use Rattle.path_walk.proofs.Lengths.{at_most}
use Rattle.path.specs.Answer.{Refused, Finished, Step}
use Rattle.path.specs.Handing.{path_tests, named, handed}
use Rattle.path.proofs.Named.{accepted}
use Rattle.path_lay.specs.Laying.{Lists}
use Rattle.path_whole.specs.Writing.{most_steps, whole_tests, written, WritesPath}
use Rattle.refusals.proofs.Answers.{worked}
use Rattle.refusals.proofs.Tests.{all_hold, no-refusal}
use Rattle.path_shape.specs.Stepping.{follow}

module _ (xs ys : List ℤ) (marks es : List ℕ) (e : refusal (path_tests xs ys marks es) ≡ 0) where
  -- the path
  abbrev steps : List PathStep
  steps = path (points xs ys marks) es

  -- nothing is refused
  handed-is : (k : ℕ) → handed xs ys marks es k ≡ named steps k
  unfolding handed
  handed-is k = ap (λ (n : ℕ). answered n Refused (named steps k)) e

  -- a cursor below the number of steps names its step, and hands back the next number
  pub handed-step : (k : ℕ) → k < length steps → handed xs ys marks es k ≡ Step (get_or steps k Close) (record { at = k + 1 })
  unfolding named
  handed-step k h = handed-is k ∙ rw (lt-ltb k (length steps) h)

  -- any other is finished
  pub handed-end : (k : ℕ) → length steps ≤ k → handed xs ys marks es k ≡ Finished
  unfolding named
  handed-end k h = handed-is k ∙ rw (le-ltb k (length steps) h)

  -- at most points + 2 · contours steps
  pub few : length steps ≤ most_steps (length xs) (length es)
  few = at_most (points xs ys marks) es (accepted xs ys marks es e).1

  -- behind the path's end no call hands out a step
  ended : (n k : ℕ) → length steps ≤ k → follow xs ys marks es n (handed xs ys marks es k) ≡ drop k steps
  unfolding follow
  ended zero k l = sym (drop_of_length-le steps {i = k} l)
  ended (suc n) k l = rw (handed-end k l) (sym (drop_of_length-le steps {i = k} l))

  -- calls from cursor k on
  followed : (n k : ℕ) → length steps ≤ k + n → follow xs ys marks es n (handed xs ys marks es k) ≡ drop k steps
  unfolding follow
  followed zero k h = ended 0 k (omega arith)
  followed (suc n) k h =
      ⊎_elim (λ (l : k < length steps). on (followed n (k + 1) (omega arith)) l) (λ (l : length steps ≤ k). ended (suc n) k l) (lt-or-le k (length steps))
    where
      on : follow xs ys marks es n (handed xs ys marks es (k + 1)) ≡ drop (k + 1) steps → k < length steps
          → follow xs ys marks es (suc n) (handed xs ys marks es k) ≡ drop k steps
      on q l = rw (handed-step k l) (ap (λ (m : List PathStep). get_or steps k Close ∷ m) q ∙ sym (drop-one steps k Close l))

  -- so points + 2 · contours calls are enough for all steps
  pub sequence : follow xs ys marks es (most_steps (length xs) (length es)) (handed xs ys marks es 0) ≡ steps
  sequence = followed (most_steps (length xs) (length es)) 0 (omega (arith, few))

-- what one call for the whole path writes is what stepping hands out
pub whole : (xs ys : List ℤ) (marks es : List ℕ) (l : Lists) (r : ℕ) (l' : Lists) → WritesPath xs ys marks es l r l' → r ≡ 0
    → l' ≡ written (follow xs ys marks es (most_steps (length xs) (length es)) (handed xs ys marks es 0)) l
whole xs ys marks es l r l' w z =
    let tests = whole_tests xs ys marks es (length l.kinds) (length l.places) in
    let k : refusal tests ≡ 0 = sym w.answer ∙ z in
    let e = no-refusal (path_tests xs ys marks es) (all_hold tests refl k).1 in
    w.lists ∙ worked (λ _. l) (written (path (points xs ys marks) es) l) (refusal tests) k
    ∙ ap (λ (p : List PathStep). written p l) (sym (sequence xs ys marks es e))
