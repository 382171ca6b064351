-- The refusals on small outlines, worked out by hand.
use mathlib.Core.Path.{◌≡◌, refl}
use mathlib.Core.List.{[], ◌∷◌}
use lib.IntN.{pos, negsuc}
use Rattle.refusals.specs.Refusal.{refusal}
use Rattle.weak.specs.Weak.{ends_hold, coordinate_holds, coordinates_hold}
use Rattle.shown_count.specs.Count.{shown_tests}

-- 1,023 by 64 is 65,472, which is accepted
most : refusal (shown_tests (pos 1023 ∷ []) (negsuc 1022 ∷ []) (1 ∷ []) (0 ∷ []) (pos 64)) ≡ 0
unfolding refusal ends_hold coordinate_holds coordinates_hold
most = refl

-- 1,024 by 64 is 65,536, refused by 4, of a point of no contour too
more : refusal (shown_tests (pos 0 ∷ []) (negsuc 1023 ∷ []) (1 ∷ []) [] (pos 64)) ≡ 4
unfolding refusal ends_hold coordinate_holds coordinates_hold
more = refl

-- a contour end that is no point is refused by 3, in front of 4
end : refusal (shown_tests (pos 65536 ∷ []) (pos 0 ∷ []) (1 ∷ []) (1 ∷ []) (pos 1)) ≡ 3
unfolding refusal ends_hold coordinate_holds coordinates_hold
end = refl

-- a magnification of 0, below 0, or of 65 is refused by 2, in front of 3
none : refusal (shown_tests (pos 0 ∷ []) (pos 0 ∷ []) (1 ∷ []) (1 ∷ []) (pos 0)) ≡ 2
unfolding refusal ends_hold coordinate_holds coordinates_hold
none = refl

turned : refusal (shown_tests (pos 0 ∷ []) (pos 0 ∷ []) (1 ∷ []) (1 ∷ []) (negsuc 0)) ≡ 2
unfolding refusal ends_hold coordinate_holds coordinates_hold
turned = refl

large : refusal (shown_tests (pos 0 ∷ []) (pos 0 ∷ []) (1 ∷ []) (0 ∷ []) (pos 65)) ≡ 2
unfolding refusal ends_hold coordinate_holds coordinates_hold
large = refl

-- lists that differ in length are refused by 1, in front of 2
lists : refusal (shown_tests (pos 0 ∷ []) [] (1 ∷ []) (1 ∷ []) (pos 0)) ≡ 1
unfolding refusal ends_hold coordinate_holds coordinates_hold
lists = refl
