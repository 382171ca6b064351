-- The definition on small outlines, worked out by hand from request #101's sentences.
use mathlib.Core.Path.{◌≡◌, refl}
use mathlib.Core.List.{List, [], ◌∷◌}
use Prim.Native.Nat.{ℕ}
use lib.IntN.{pos, negsuc}
use lib.Count.{count_trailing_zeros}
use lib.Ieee.{odd}
use Rattle.path_places.specs.Exact.{over}
use Rattle.path_places.specs.Places.{point_at, halfway_at}
use Rattle.path_places.specs.declared.PixelPoint.{PixelPoint}
use Rattle.path_trip.specs.declared.step.PathStep.TheVariants.{Move, Line, Curve, Close}
use Rattle.path_trip.specs.Path.{Points, points, from, front, rest, round_by, round_of, curve_end, walked, steps_of, path_from, path}

-- four points of a square, with these marks
abbrev square : List ℕ → Points
square marks = points (pos 0 ∷ pos 64 ∷ pos 64 ∷ pos 0 ∷ []) (pos 0 ∷ pos 0 ∷ pos 64 ∷ pos 64 ∷ []) marks

abbrev at-0 : PixelPoint
at-0 = point_at (pos 0) (pos 0)

abbrev at_1 : PixelPoint
at_1 = point_at (pos 64) (pos 0)

abbrev at-2 : PixelPoint
at-2 = point_at (pos 64) (pos 64)

abbrev at-3 : PixelPoint
at-3 = point_at (pos 0) (pos 64)

-- all on the curve: the way back is left to the close
lines : path (square (1 ∷ 1 ∷ 1 ∷ 1 ∷ [])) (3 ∷ []) ≡ Move at-0 ∷ Line at_1 ∷ Line at-2 ∷ Line at-3 ∷ Close ∷ []
unfolding path path_from steps_of walked curve_end round_of round_by front rest from
lines = refl

-- none on the curve: the start is halfway between the last and the first point
curves : path (square (0 ∷ 0 ∷ 0 ∷ 0 ∷ [])) (3 ∷ [])
    ≡ Move (halfway_at (pos 0) (pos 64) (pos 0) (pos 0))
    ∷ Curve at-0 (halfway_at (pos 0) (pos 0) (pos 64) (pos 0))
    ∷ Curve at_1 (halfway_at (pos 64) (pos 0) (pos 64) (pos 64))
    ∷ Curve at-2 (halfway_at (pos 64) (pos 64) (pos 0) (pos 64))
    ∷ Curve at-3 (halfway_at (pos 0) (pos 64) (pos 0) (pos 0))
    ∷ Close ∷ []
unfolding path path_from steps_of walked curve_end round_of round_by front rest from
curves = refl

-- the third is the first on the curve: the walk goes over the seam, and ends in a curve to the start
seam : path (square (0 ∷ 0 ∷ 255 ∷ 0 ∷ [])) (3 ∷ [])
    ≡ Move at-2
    ∷ Curve at-3 (halfway_at (pos 0) (pos 64) (pos 0) (pos 0))
    ∷ Curve at-0 (halfway_at (pos 0) (pos 0) (pos 64) (pos 0))
    ∷ Curve at_1 at-2
    ∷ Close ∷ []
unfolding path path_from steps_of walked curve_end round_of round_by front rest from
seam = refl

-- an on-curve point behind a curve gives no step of its own
ended : path (square (1 ∷ 0 ∷ 1 ∷ 1 ∷ [])) (3 ∷ []) ≡ Move at-0 ∷ Curve at_1 at-2 ∷ Line at-3 ∷ Close ∷ []
unfolding path path_from steps_of walked curve_end round_of round_by front rest from
ended = refl

-- lone points, on and off the curve; the last two points belong to no contour
lone : path (square (1 ∷ 0 ∷ 1 ∷ 1 ∷ [])) (0 ∷ 1 ∷ [])
    ≡ Move at-0 ∷ Close ∷ Move (halfway_at (pos 64) (pos 0) (pos 64) (pos 0)) ∷ Curve at_1 (halfway_at (pos 64) (pos 0) (pos 64) (pos 0)) ∷ Close ∷ []
unfolding path path_from steps_of walked curve_end round_of round_by front rest from
lone = refl

-- no contour
empty : path (square (1 ∷ 1 ∷ 1 ∷ 1 ∷ [])) [] ≡ []
unfolding path path_from
empty = refl

-- halfway between a point and itself is the point: a lone off-curve point gets its curve to itself
itself : halfway_at (pos 64) (negsuc 2) (pos 64) (negsuc 2) ≡ point_at (pos 64) (negsuc 2)
unfolding over odd count_trailing_zeros
itself = refl
