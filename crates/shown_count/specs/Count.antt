-- What the display shows of an outline: which outlines are refused, and what a call hands back of the others. An outline is its points' coordinates xs and ys, their on-curve marks, and the ends es
-- of its contours; m multiplies its coordinates.
use Rattle.std.specs.Prelude.{◌≡◌, Bool, List, ◌∷◌, map, ℕ, leb, eqb, length, ℤ, pos, nat_abs, ◌*ℤ◌}
use Rattle.refusals.specs.Refusal.{Test, ◌unless◌, refusal, answered, too_long, bad_parameter, bad_index}
use Rattle.axis.specs.Refusals.{inside}
use Rattle.weak_contour.specs.Limits.{most_points, most_coordinate}
use Rattle.weak.specs.Weak.{ends_hold, range_tests}
use Rattle.path_trip.specs.Path.{points}
use Rattle.shown_rows.specs.Turns.{most_columns}
use Rattle.shown.specs.Shown.{lines_of, black, black_count, euler}
use Rattle.shown.specs.Field.{field_half, most_magnify}
use Rattle.shown_count.specs.Answer.{Shown}

-- ---- the refusals
-- a coordinate, multiplied
abbrev pub times : ℤ → ℤ → ℤ
times m z = m *ℤ z

-- and those of a list
abbrev pub magnified : ℤ → List ℤ → List ℤ
magnified m l = map (times m) l

-- the tests of a call, in document 01's order
abbrev pub shown_tests : List ℤ → List ℤ → List ℕ → List ℕ → ℤ → List Test
shown_tests xs ys marks es m =
    too_long unless leb (length xs) most_points
    ∷ too_long unless eqb (length ys) (length xs)
    ∷ too_long unless eqb (length marks) (length xs)
    ∷ bad_parameter unless inside (pos 1) (pos most_magnify) m
    ∷ bad_index unless ends_hold 0 (length xs) es
    ∷ range_tests most_coordinate (magnified m xs) (magnified m ys)

-- ---- what the call hands back
-- the picture, magnified
abbrev pub picture : List ℤ → List ℤ → List ℕ → List ℕ → ℤ → ℕ → ℕ → Bool
picture xs ys marks es m = black (lines_of field_half (nat_abs m) (points xs ys marks) 0 es)

-- beside a refusal both numbers are 0
abbrev pub refused_by : ℕ → Shown
refused_by k = record { answer = k; black = 0; euler = pos 0 }

-- beside 0 stand the black pixels of the field, and their Euler number
abbrev pub counted_of : (ℕ → ℕ → Bool) → Shown
counted_of b = record { answer = 0; black = black_count b most_columns; euler = euler b most_columns }

unfoldable pub shown : List ℤ → List ℤ → List ℕ → List ℕ → ℤ → Shown
shown xs ys marks es m = answered (refusal (shown_tests xs ys marks es m)) refused_by (counted_of (picture xs ys marks es m))

-- what `count_shown` owes its caller: it hands back r
abbrev pub CountsShown : List ℤ → List ℤ → List ℕ → List ℕ → ℤ → Shown → Type 0
CountsShown xs ys marks es m r = r ≡ shown xs ys marks es m

-- ---- in lent places
-- what `lend_shown` owes its caller, where `black` and `euler` stood: the answer r, and the numbers that it leaves; a refusal writes neither
pub record ShownLent (xs ys : List ℤ) (marks es : List ℕ) (m : ℤ) (blacks : ℕ) (number : ℤ) (r blacks' : ℕ) (number' : ℤ) : Type 0 where
  pub answer : r ≡ (shown xs ys marks es m).answer
  pub black_is : blacks' ≡ answered (shown xs ys marks es m).answer (λ _. blacks) (shown xs ys marks es m).black
  pub euler_is : number' ≡ answered (shown xs ys marks es m).answer (λ _. number) (shown xs ys marks es m).euler
