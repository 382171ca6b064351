-- Worked values.
use mathlib.Core.Path.{◌≡◌, refl}
use mathlib.Core.Bool.{true, false}
use mathlib.Core.List.{List, [], ◌∷◌}
use Prim.Native.Nat.{ℕ}
use Rattle.weak_contour.specs.Contour.{references, touched_before, touched_behind, first_touched, last_touched}
use Rattle.weak.specs.Weak.{contour_of}
use Rattle.weak_known.specs.Known.{free, by_two, before_of, behind_of, same_as}
use lib.IntN.{pos}
use Rattle.weak_contour.specs.Contour.{refs, first_of}
use Rattle.weak_known.specs.Known.{touched, no_contour, one_or_none, two, known, before_at, behind_at, matches}

-- nine points: a contour of five with 1 and 3 touched, one of two with 5 touched, and two points of none, the last touched
abbrev marks : List ℕ
marks = 0 ∷ 1 ∷ 0 ∷ 255 ∷ 0 ∷ 1 ∷ 0 ∷ 0 ∷ 1 ∷ []

abbrev ends : List ℕ
ends = 4 ∷ 6 ∷ []

seam : known marks ends 0 ≡ two 3 1
unfolding known free by_two before_at behind_at before_of behind_of matches same_as references touched_before touched_behind first_touched last_touched contour_of first_of
seam = refl

inside : known marks ends 2 ≡ two 1 3
unfolding known free by_two before_at behind_at before_of behind_of matches same_as references touched_before touched_behind first_touched last_touched contour_of first_of
inside = refl

behind-last : known marks ends 4 ≡ two 3 1
unfolding known free by_two before_at behind_at before_of behind_of matches same_as references touched_before touched_behind first_touched last_touched contour_of first_of
behind-last = refl

lone : known marks ends 6 ≡ one_or_none
unfolding known free by_two before_at behind_at before_of behind_of matches same_as references touched_before touched_behind first_touched last_touched contour_of first_of
lone = refl

lone-touched : known marks ends 5 ≡ touched
unfolding known free by_two before_at behind_at before_of behind_of matches same_as references touched_before touched_behind first_touched last_touched contour_of first_of
lone-touched = refl

none : known marks ends 7 ≡ no_contour
unfolding known free by_two before_at behind_at before_of behind_of matches same_as references touched_before touched_behind first_touched last_touched contour_of first_of
none = refl

none-touched : known marks ends 8 ≡ touched
unfolding known free by_two before_at behind_at before_of behind_of matches same_as references touched_before touched_behind first_touched last_touched contour_of first_of
none-touched = refl

abbrev before : List ℕ
before = 3 ∷ 65535 ∷ 1 ∷ 65535 ∷ 3 ∷ 65535 ∷ 65533 ∷ 65534 ∷ 65535 ∷ []

abbrev behind : List ℕ
behind = 1 ∷ 65535 ∷ 3 ∷ 65535 ∷ 1 ∷ 65535 ∷ 65533 ∷ 65534 ∷ 65535 ∷ []

-- they match, with other marks of the same touched points too
match : matches marks ends before behind ≡ true
unfolding known free by_two before_at behind_at before_of behind_of matches same_as references touched_before touched_behind first_touched last_touched contour_of first_of
match = refl

other-marks : matches (0 ∷ 7 ∷ 0 ∷ 1 ∷ 0 ∷ 9 ∷ 0 ∷ 0 ∷ 255 ∷ []) ends before behind ≡ true
unfolding known free by_two before_at behind_at before_of behind_of matches same_as references touched_before touched_behind first_touched last_touched contour_of first_of
other-marks = refl

-- a touched point's entry is read, in the second list alone
unread : matches marks ends before (1 ∷ 0 ∷ 3 ∷ 65535 ∷ 1 ∷ 65535 ∷ 65533 ∷ 65534 ∷ 65535 ∷ []) ≡ false
unfolding known free by_two before_at behind_at before_of behind_of matches same_as references touched_before touched_behind first_touched last_touched contour_of first_of
unread = refl

-- the first and second reference by size: before 10 and behind 5 the first is behind, 5 and 5 the one before; the entry is the same
at-10 : first_of (pos 10 ∷ pos 7 ∷ pos 5 ∷ []) (refs 0 2) ≡ 2
unfolding known free by_two before_at behind_at before_of behind_of matches same_as references touched_before touched_behind first_touched last_touched contour_of first_of
at-10 = refl

at_5 : first_of (pos 5 ∷ pos 5 ∷ pos 5 ∷ []) (refs 0 2) ≡ 0
unfolding known free by_two before_at behind_at before_of behind_of matches same_as references touched_before touched_behind first_touched last_touched contour_of first_of
at_5 = refl
