-- Worked values.
use mathlib.Core.Path.{◌≡◌, refl}
use mathlib.Core.List.{List, [], ◌∷◌}
use Prim.Native.Nat.{ℕ}
use Rattle.fixed.specs.Point.{rounded, rounded_z, mul_fix, div_fix}
use Rattle.fixed.specs.Divide.{too_steep}
use Rattle.weak_contour.specs.Contour.{
  references,
  touched_before,
  touched_behind,
  first_touched,
  last_touched,
  weak_at,
  followed,
  shifted_at,
  between_at,
  first_of,
  second_of,
  interpolated,
  steep_at,
  steep_followed,
  steep_by,
  steep_between,
}
use Rattle.weak.specs.Weak.{ends_hold, coordinates_hold, coordinate_holds, list_of, contour_of, aligned_at, on_contour, gentle, gentle_from, steep_on}
use lib.IntN.{ℤ, pos}
use Rattle.refusals.specs.Refusal.{refusal}
use Rattle.weak_drag.specs.Drag.{depends, is_reference, refers_on, is_there, drag_tests, dragged, dragged_at}

-- five points, one contour, 1 and 3 touched: both stretches around the seam depend on each of them
abbrev marks : List ℕ
marks = 0 ∷ 1 ∷ 0 ∷ 255 ∷ 0 ∷ []

abbrev ends : List ℕ
ends = 4 ∷ []

abbrev originals : List ℤ
originals = pos 0 ∷ pos 10 ∷ pos 20 ∷ pos 30 ∷ pos 40 ∷ []

-- a contour whose only touched point stands on its original again: its neighbour keeps what it held
stays : dragged (pos 0 ∷ pos 10 ∷ []) (pos 0 ∷ pos 25 ∷ []) (1 ∷ 0 ∷ []) (1 ∷ []) 0 ≡ pos 0 ∷ pos 25 ∷ []
unfolding dragged refusal ends_hold is_there coordinates_hold coordinate_holds list_of dragged_at depends refers_on is_reference contour_of references touched_before
    touched_behind first_touched last_touched aligned_at on_contour weak_at followed shifted_at between_at first_of second_of interpolated gentle gentle_from steep_on
    steep_at steep_followed steep_by steep_between too_steep mul_fix div_fix rounded_z rounded
stays = refl

-- moved by 7: the neighbour follows its original, not what it held
moves : dragged (pos 0 ∷ pos 10 ∷ []) (pos 7 ∷ pos 25 ∷ []) (1 ∷ 0 ∷ []) (1 ∷ []) 0 ≡ pos 7 ∷ pos 17 ∷ []
unfolding dragged refusal ends_hold is_there coordinates_hold coordinate_holds list_of dragged_at depends refers_on is_reference contour_of references touched_before
    touched_behind first_touched last_touched aligned_at on_contour weak_at followed shifted_at between_at first_of second_of interpolated gentle gentle_from steep_on
    steep_at steep_followed steep_by steep_between too_steep mul_fix div_fix rounded_z rounded
moves = refl

-- point 1 dragged by 20 on a buffer whose point 0 was not aligned: 0, 2 and 4 depend on it; the first reference is 1, the second 3
follows : dragged originals (pos 99 ∷ pos 30 ∷ pos 20 ∷ pos 30 ∷ pos 40 ∷ []) marks ends 1 ≡ pos 20 ∷ pos 30 ∷ pos 30 ∷ pos 30 ∷ pos 40 ∷ []
unfolding dragged refusal ends_hold is_there coordinates_hold coordinate_holds list_of dragged_at depends refers_on is_reference contour_of references touched_before
    touched_behind first_touched last_touched aligned_at on_contour weak_at followed shifted_at between_at first_of second_of interpolated gentle gentle_from steep_on
    steep_at steep_followed steep_by steep_between too_steep mul_fix div_fix rounded_z rounded
follows = refl

-- a point that is not touched, and one that is not there
untouched : refusal (drag_tests originals originals marks ends 2) ≡ 3
unfolding dragged refusal ends_hold is_there coordinates_hold coordinate_holds list_of dragged_at depends refers_on is_reference contour_of references touched_before
    touched_behind first_touched last_touched aligned_at on_contour weak_at followed shifted_at between_at first_of second_of interpolated gentle gentle_from steep_on
    steep_at steep_followed steep_by steep_between too_steep mul_fix div_fix rounded_z rounded
untouched = refl

missing : refusal (drag_tests originals originals marks ends 5) ≡ 3
unfolding dragged refusal ends_hold is_there coordinates_hold coordinate_holds list_of dragged_at depends refers_on is_reference contour_of references touched_before
    touched_behind first_touched last_touched aligned_at on_contour weak_at followed shifted_at between_at first_of second_of interpolated gentle gentle_from steep_on
    steep_at steep_followed steep_by steep_between too_steep mul_fix div_fix rounded_z rounded
missing = refl

-- 3 stands in front of 4, and 1 in front of 3
three-first : refusal (drag_tests originals (pos 99999 ∷ pos 30 ∷ pos 20 ∷ pos 30 ∷ pos 40 ∷ []) marks ends 2) ≡ 3
unfolding dragged refusal ends_hold is_there coordinates_hold coordinate_holds list_of dragged_at depends refers_on is_reference contour_of references touched_before
    touched_behind first_touched last_touched aligned_at on_contour weak_at followed shifted_at between_at first_of second_of interpolated gentle gentle_from steep_on
    steep_at steep_followed steep_by steep_between too_steep mul_fix div_fix rounded_z rounded
three-first = refl

one-first : refusal (drag_tests originals [] marks ends 2) ≡ 1
unfolding dragged refusal ends_hold is_there coordinates_hold coordinate_holds list_of dragged_at depends refers_on is_reference contour_of references touched_before
    touched_behind first_touched last_touched aligned_at on_contour weak_at followed shifted_at between_at first_of second_of interpolated gentle gentle_from steep_on
    steep_at steep_followed steep_by steep_between too_steep mul_fix div_fix rounded_z rounded
one-first = refl
