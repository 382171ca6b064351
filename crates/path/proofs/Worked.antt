-- The refusals on small outlines, worked out by hand from request #101's sentences.
use mathlib.Core.Path.{◌≡◌, refl}
use mathlib.Core.List.{[], ◌∷◌}
use lib.IntN.{pos, negsuc}
use Rattle.refusals.specs.Refusal.{refusal}
use Rattle.weak.specs.Weak.{ends_hold, coordinate_holds, coordinates_hold}
use Rattle.path.specs.Handing.{path_tests}

-- 196,605 either way is accepted
most : refusal (path_tests (pos 196605 ∷ []) (negsuc 196604 ∷ []) (1 ∷ []) (0 ∷ [])) ≡ 0
unfolding refusal ends_hold coordinate_holds coordinates_hold
most = refl

-- one unit more is refused by 4, of a point of no contour too
more : refusal (path_tests (pos 0 ∷ []) (negsuc 196605 ∷ []) (1 ∷ []) []) ≡ 4
unfolding refusal ends_hold coordinate_holds coordinates_hold
more = refl

-- a contour end that is no point is refused by 3, in front of 4
end : refusal (path_tests (pos 49150 ∷ []) (pos 0 ∷ []) (1 ∷ []) (1 ∷ [])) ≡ 3
unfolding refusal ends_hold coordinate_holds coordinates_hold
end = refl

-- lists that differ in length are refused by 1, in front of 3
lists : refusal (path_tests (pos 49150 ∷ []) [] (1 ∷ []) (1 ∷ [])) ≡ 1
unfolding refusal ends_hold coordinate_holds coordinates_hold
lists = refl
