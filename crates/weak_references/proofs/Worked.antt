-- Values worked out by hand: the refusals in their order, and one list at two sizes.
use mathlib.Core.Path.{◌≡◌, refl}
use mathlib.Core.List.{List, [], ◌∷◌}
use Prim.Native.Nat.{ℕ}
use lib.IntN.{ℤ, pos}
use Rattle.refusals.specs.Refusal.{refusal}
use Rattle.fixed.specs.Point.{rounded, rounded_z, mul_fix, div_fix}
use Rattle.fixed.specs.Divide.{too_steep}
use Rattle.weak_contour.specs.Contour.{
  references,
  touched_before,
  touched_behind,
  first_touched,
  last_touched,
  first_of,
  second_of,
  interpolated,
  between_at,
  followed,
  weak_at,
  steep_at,
  steep_followed,
  steep_by,
  steep_between,
}
use Rattle.weak.specs.Weak.{ends_hold, coordinates_hold, coordinate_holds, contour_of, steep_on, gentle_from, gentle, on_contour, aligned_at}
use Rattle.weak_known.specs.Known.{known, free, by_two, before_of, behind_of, before_at, behind_at, same_as, matches, entries_from, befores, behinds}
use Rattle.weak_references.specs.References.{remember_tests, with_tests}

-- three points of one contour, the first and the last touched
abbrev marks : List ℕ
marks = 1 ∷ 0 ∷ 255 ∷ []

abbrev ends : List ℕ
ends = 2 ∷ []

abbrev before : List ℕ
before = 65535 ∷ 0 ∷ 65535 ∷ []

abbrev behind : List ℕ
behind = 65535 ∷ 2 ∷ 65535 ∷ []

wrote-before : befores marks ends ≡ before
unfolding entries_from before_at before_of known free by_two references touched_before touched_behind first_touched last_touched contour_of
wrote-before = refl

wrote-behind : behinds marks ends ≡ behind
unfolding entries_from behind_at behind_of known free by_two references touched_before touched_behind first_touched last_touched contour_of
wrote-behind = refl

-- before 10 and behind 5: the reference behind is the first; at another size 5 and 5: the one before is. The lists are accepted at both
at-10 : refusal (with_tests (pos 10 ∷ pos 7 ∷ pos 5 ∷ []) (pos 20 ∷ pos 7 ∷ pos 5 ∷ []) marks ends before behind) ≡ 0
unfolding refusal ends_hold coordinates_hold coordinate_holds matches same_as before_at behind_at before_of behind_of known free by_two references touched_before
    touched_behind first_touched last_touched contour_of gentle gentle_from steep_on steep_at steep_followed steep_by steep_between too_steep div_fix rounded_z rounded
    first_of second_of
at-10 = refl

at_5 : refusal (with_tests (pos 5 ∷ pos 5 ∷ pos 5 ∷ []) (pos 9 ∷ pos 7 ∷ pos 6 ∷ []) marks ends before behind) ≡ 0
unfolding refusal ends_hold coordinates_hold coordinate_holds matches same_as before_at behind_at before_of behind_of known free by_two references touched_before
    touched_behind first_touched last_touched contour_of gentle gentle_from steep_on steep_at steep_followed steep_by steep_between too_steep div_fix rounded_z rounded
    first_of second_of
at_5 = refl

-- the point's original is the first's: at 10 it lies strictly between, and comes to 5 + 2 · 3; at 5 it gets the delta of the one before
comes-at-5 : aligned_at (pos 5 ∷ pos 5 ∷ pos 5 ∷ []) (pos 9 ∷ pos 7 ∷ pos 6 ∷ []) marks ends 1 ≡ pos 9
unfolding aligned_at on_contour weak_at followed between_at interpolated first_of second_of references touched_before touched_behind first_touched last_touched contour_of
comes-at-5 = refl

comes-at-10 : aligned_at (pos 10 ∷ pos 7 ∷ pos 5 ∷ []) (pos 20 ∷ pos 7 ∷ pos 5 ∷ []) marks ends 1 ≡ pos 11
unfolding aligned_at on_contour weak_at followed between_at interpolated first_of second_of references touched_before touched_behind first_touched last_touched
    contour_of mul_fix div_fix rounded_z rounded
comes-at-10 = refl

-- 9 stands behind 3 and in front of 4, and a list of another length is 1, in front of 3
abbrev wide : List ℤ
wide = pos 99999 ∷ pos 7 ∷ pos 5 ∷ []

nine-first : refusal (with_tests wide wide marks ends behind before) ≡ 9
unfolding refusal ends_hold coordinates_hold coordinate_holds matches same_as before_at behind_at before_of behind_of known free by_two references touched_before
    touched_behind first_touched last_touched contour_of
nine-first = refl

then-four : refusal (with_tests wide wide marks ends before behind) ≡ 4
unfolding refusal ends_hold coordinates_hold coordinate_holds matches same_as before_at behind_at before_of behind_of known free by_two references touched_before
    touched_behind first_touched last_touched contour_of
then-four = refl

three-first : refusal (with_tests wide wide marks (3 ∷ []) behind before) ≡ 3
unfolding refusal ends_hold
three-first = refl

one-first : refusal (with_tests wide wide marks (3 ∷ []) before []) ≡ 1
unfolding refusal ends_hold
one-first = refl

-- remembering asks for no coordinate
remembers : refusal (remember_tests marks ends before behind) ≡ 0
unfolding refusal ends_hold
remembers = refl

remembers-not : refusal (remember_tests marks (2 ∷ 2 ∷ []) before behind) ≡ 3
unfolding refusal ends_hold
remembers-not = refl
