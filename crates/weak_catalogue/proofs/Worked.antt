-- Values of the definitions worked out by hand: a catalogue of four outlines, of which the second and the third are refused and the fourth is empty.
use mathlib.Core.Path.{◌≡◌, refl}
use mathlib.Core.List.{List, [], ◌∷◌}
use Prim.Native.Nat.{ℕ}
use lib.IntN.{ℤ, pos, negsuc}
use Rattle.fixed.specs.Point.{rounded, rounded_z, div_fix}
use Rattle.fixed.specs.Divide.{too_steep}
use Rattle.refusals.specs.Refusal.{refusal}
use Rattle.weak_contour.specs.Contour.{
  first_touched,
  last_touched,
  touched_before,
  touched_behind,
  references,
  first_of,
  second_of,
  shifted_at,
  followed,
  weak_at,
  steep_between,
  steep_by,
  steep_followed,
  steep_at,
}
use Rattle.weak.specs.Weak.{ends_hold, coordinate_holds, coordinates_hold, contour_of, steep_on, gentle_from, gentle, on_contour, aligned_at, list_of, result}
use Rattle.weak_catalogue.specs.Catalogue.{total, catalogue_tests, answers_of, currents_of}

-- two points on a contour, of which the first is touched and moved by 5; one point, whose contour end 2 is not below 1; three of which the middle one is too
-- steep; and nothing
abbrev originals : List ℤ
originals = pos 0 ∷ pos 10 ∷ pos 7 ∷ pos 0 ∷ pos 1 ∷ pos 2 ∷ []

abbrev currents : List ℤ
currents = pos 5 ∷ pos 10 ∷ pos 9 ∷ negsuc 0 ∷ pos 4 ∷ pos 65535 ∷ []

abbrev marks : List ℕ
marks = 1 ∷ 0 ∷ 0 ∷ 1 ∷ 0 ∷ 1 ∷ []

abbrev ends : List ℕ
ends = 1 ∷ 2 ∷ 2 ∷ []

abbrev point-counts : List ℕ
point-counts = 2 ∷ 1 ∷ 3 ∷ 0 ∷ []

abbrev contour-counts : List ℕ
contour-counts = 1 ∷ 1 ∷ 1 ∷ 0 ∷ []

-- the counts add up, and with one point more in the second outline they do not
accepted : refusal (catalogue_tests originals currents marks ends point-counts contour-counts (9 ∷ 9 ∷ 9 ∷ 9 ∷ [])) ≡ 0
unfolding refusal total
accepted = refl

one_more : refusal (catalogue_tests originals currents marks ends (2 ∷ 2 ∷ 3 ∷ 0 ∷ []) contour-counts (9 ∷ 9 ∷ 9 ∷ 9 ∷ [])) ≡ 1
unfolding refusal total
one_more = refl

-- every outline has its answer
answered-each : answers_of originals currents marks ends point-counts contour-counts ≡ 0 ∷ 3 ∷ 8 ∷ 0 ∷ []
unfolding answers_of refusal ends_hold coordinate_holds coordinates_hold contour_of references touched_before touched_behind first_touched last_touched gentle
    gentle_from steep_on steep_at steep_followed steep_by steep_between first_of second_of too_steep div_fix rounded_z rounded
answered-each = refl

-- the first outline's second point moves with its first, and the refused outlines keep their points
moved-each : currents_of originals currents marks ends point-counts contour-counts ≡ pos 5 ∷ pos 15 ∷ pos 9 ∷ negsuc 0 ∷ pos 4 ∷ pos 65535 ∷ []
unfolding currents_of result refusal ends_hold coordinate_holds coordinates_hold list_of aligned_at on_contour contour_of weak_at references touched_before
    touched_behind first_touched last_touched followed shifted_at gentle gentle_from steep_on steep_at steep_followed steep_by steep_between first_of second_of too_steep
    div_fix rounded_z rounded
moved-each = refl
