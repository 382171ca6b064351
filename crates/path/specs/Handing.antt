-- One step of a path (request #101): which outlines are refused, and what a call hands out of the others. An outline is its points' fitted coordinates xs and ys,
-- their on-curve marks, and the ends es of its contours.
use Rattle.std.specs.Prelude.{◌≡◌, cond, List, ℕ, ◌+◌, ltb, length, get_or, ℤ}
use Rattle.refusals.specs.Refusal.{Test, refusal, answered}
use Rattle.weak_contour.specs.Limits.{most_result}
use Rattle.weak.specs.Weak.{outline_tests}
use Rattle.path_trip.specs.declared.step.PathStep.{PathStep}
use Rattle.path_trip.specs.declared.step.PathStep.TheVariants.{Close}
use Rattle.path_trip.specs.Path.{points, path}
use Rattle.path.specs.Answer.{Handed, Refused, Finished, Step}

-- the tests of an outline of fitted points: those of weak points, for coordinates that weak points can leave
abbrev pub path_tests : List ℤ → List ℤ → List ℕ → List ℕ → List Test
path_tests = outline_tests most_result

-- step k of a path and the next cursor, or finished where k names none
unfoldable pub named : List PathStep → ℕ → Handed
named p k = cond (ltb k (length p)) (Step (get_or p k Close) (record { at = k + 1 })) Finished

-- what a call with the cursor k hands out
unfoldable pub handed : List ℤ → List ℤ → List ℕ → List ℕ → ℕ → Handed
handed xs ys marks es k = answered (refusal (path_tests xs ys marks es)) Refused (named (path (points xs ys marks) es) k)

-- what `path_step` owes its caller: it hands out r
abbrev pub HandsStep : List ℤ → List ℤ → List ℕ → List ℕ → ℕ → Handed → Type 0
HandsStep xs ys marks es k r = r ≡ handed xs ys marks es k
