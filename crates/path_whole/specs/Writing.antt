-- A whole path in lent lists (request #101): the kinds of its steps, and four numbers a step for their places.
use Rattle.std.specs.Prelude.{◌≡◌, Bool, ◌&&◌, List, [], ◌∷◌, ◌++◌, ℕ, ◌+◌, ◌*◌, leb, Float, ℤ, length, drop}
use Rattle.refusals.specs.Refusal.{Test, ◌unless◌, refusal, answered, too_long}
use Rattle.path_trip.specs.declared.step.PathStep.{PathStep}
use Rattle.path_trip.specs.Path.{points, path}
use Rattle.path_trip.specs.Numbers.{kind_of, first_of, second_of}
use Rattle.path.specs.Handing.{path_tests}
use Rattle.path.specs.Lending.{four}
use Rattle.path_lay.specs.Laying.{Lists, lent}

-- ---- the refusals
-- how many steps there are at most
abbrev pub most_steps : ℕ → ℕ → ℕ
most_steps points contours = points + 2 * contours

-- as many kinds and numbers are room for them
abbrev pub has_room : ℕ → ℕ → ℕ → ℕ → Bool
has_room points contours kinds places = leb (most_steps points contours) kinds && leb (4 * most_steps points contours) places

-- the tests of a call with as many kinds and numbers lent: that of the room is one of those answered by 1, which come first
abbrev pub whole_tests : List ℤ → List ℤ → List ℕ → List ℕ → ℕ → ℕ → List Test
whole_tests xs ys marks es kinds places = too_long unless has_room (length xs) (length es) kinds places ∷ path_tests xs ys marks es

-- ---- what the call leaves
-- the kinds of steps
unfoldable pub kinds_of : List PathStep → List ℕ
kinds_of [] = []
kinds_of (s ∷ ss) = kind_of s ∷ kinds_of ss

-- the numbers of their places
unfoldable pub numbers_of : List PathStep → List Float
numbers_of [] = []
numbers_of (s ∷ ss) = four (first_of s) (second_of s) ++ numbers_of ss

-- lent lists with a path written over their beginning, and the number of its steps: what stands behind stays
abbrev pub written : List PathStep → Lists → Lists
written p l = lent (kinds_of p ++ drop (length p) l.kinds) (numbers_of p ++ drop (4 * length p) l.places) (length p)

-- what `path` owes its caller, where l stood in the lent lists and the count: the answer r, 0 or the number of a refusal, and what it leaves there, l'
pub record WritesPath (xs ys : List ℤ) (marks es : List ℕ) (l : Lists) (r : ℕ) (l' : Lists) : Type 0 where
  pub answer : r ≡ refusal (whole_tests xs ys marks es (length l.kinds) (length l.places))
  pub lists : l' ≡ answered (refusal (whole_tests xs ys marks es (length l.kinds) (length l.places))) (λ _. l) (written (path (points xs ys marks) es) l)
