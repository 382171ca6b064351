-- Refusals of weak points worked out by hand, request #109's 8 among them.
use mathlib.Core.Path.{◌≡◌, refl}
use mathlib.Core.List.{List, [], ◌∷◌}
use Prim.Native.Nat.{ℕ}
use lib.IntN.{ℤ, pos, neg_ℤ}
use Rattle.refusals.specs.Refusal.{refusal}
use Rattle.fixed.specs.Point.{rounded, rounded_z, div_fix}
use Rattle.fixed.specs.Divide.{too_steep}
use Rattle.weak_contour.specs.Contour.{
  first_touched,
  last_touched,
  touched_before,
  touched_behind,
  references,
  first_of,
  second_of,
  steep_between,
  steep_by,
  steep_followed,
  steep_at,
}
use Rattle.weak.specs.Weak.{ends_hold, coordinate_holds, coordinates_hold, contour_of, steep_on, gentle_from, gentle, weak_tests}

-- the answer to an outline of one contour, whose points have these originals, currents and marks
abbrev answer : List ℤ → List ℤ → List ℕ → ℕ → ℕ
answer o c t end = refusal (weak_tests o c t (end ∷ []))

-- three points with originals 0, 1 and 2, of which the outer ones are touched, at these currents
abbrev three : ℤ → ℤ → ℕ
three u1 u2 = answer (pos 0 ∷ pos 1 ∷ pos 2 ∷ []) (u1 ∷ pos 0 ∷ u2 ∷ []) (1 ∷ 0 ∷ 1 ∷ []) 2

gentle-slope : three (pos 0) (pos 65535) ≡ 0
unfolding refusal ends_hold coordinate_holds coordinates_hold contour_of references touched_before touched_behind first_touched last_touched gentle gentle_from steep_on
    steep_at steep_followed steep_by steep_between first_of second_of too_steep div_fix rounded_z rounded
gentle-slope = refl

steep-slope : three (neg_ℤ (pos 1)) (pos 65535) ≡ 8
unfolding refusal ends_hold coordinate_holds coordinates_hold contour_of references touched_before touched_behind first_touched last_touched gentle gentle_from steep_on
    steep_at steep_followed steep_by steep_between first_of second_of too_steep div_fix rounded_z rounded
steep-slope = refl

-- a quotient of -2,147,483,648 is too steep as well
steep-downward : three (pos 65535) (neg_ℤ (pos 1)) ≡ 8
unfolding refusal ends_hold coordinate_holds coordinates_hold contour_of references touched_before touched_behind first_touched last_touched gentle gentle_from steep_on
    steep_at steep_followed steep_by steep_between first_of second_of too_steep div_fix rounded_z rounded
steep-downward = refl

-- a coordinate outside the range is told in front of it
far-first : three (neg_ℤ (pos 65536)) (pos 65535) ≡ 4
unfolding refusal ends_hold coordinate_holds coordinates_hold
far-first = refl

-- the steepest references are accepted where no point lies strictly between them: it has the first's original here
nothing-between : answer (pos 0 ∷ pos 0 ∷ pos 1 ∷ []) (neg_ℤ (pos 65535) ∷ pos 0 ∷ pos 65535 ∷ []) (1 ∷ 0 ∷ 1 ∷ []) 2 ≡ 0
unfolding refusal ends_hold coordinate_holds coordinates_hold contour_of references touched_before touched_behind first_touched last_touched gentle gentle_from steep_on
    steep_at steep_followed steep_by steep_between first_of second_of
nothing-between = refl
