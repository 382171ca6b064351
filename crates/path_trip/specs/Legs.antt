-- The path of a contour by indices of points: where it starts, and its legs, which are the steps between its move and its close. The path is their picture by places.
use Rattle.std.specs.Prelude.{Bool, true, false, cond, List, [], ◌∷◌, ◌++◌, ℕ, suc, ◌-◌}
use Rattle.path_places.specs.declared.PixelPoint.{PixelPoint}
use Rattle.path_trip.specs.declared.step.PathStep.{PathStep}
use Rattle.path_trip.specs.declared.step.PathStep.TheVariants.{Move, Line, Curve, Close}
use Rattle.path_trip.specs.declared.tour.Spot.{Spot}
use Rattle.path_trip.specs.declared.tour.Spot.TheVariants.{Point, Between}
use Rattle.path_trip.specs.Path.{Points, place, middle, on_curve, from, front, rest}

-- a line to a point, or a curve by a point as control to a place
pub data Leg : Type 0 where
  line : ℕ → Leg
  curve : ℕ → Spot → Leg

-- ---- the picture
abbrev pub spot_place : Points → Spot → PixelPoint
spot_place o (Point i) = place o i
spot_place o (Between i j) = middle o i j

abbrev pub pictured : Points → Leg → PathStep
pictured o (line i) = Line (place o i)
pictured o (curve i s) = Curve (place o i) (spot_place o s)

unfoldable pub pictures : Points → List Leg → List PathStep
pictures o [] = []
pictures o (l ∷ ls) = pictured o l ∷ pictures o ls

-- ---- the legs of a walk
-- where the curve by the off-curve point i ends, with these points to come
unfoldable pub curve_to : Points → Spot → ℕ → List ℕ → Spot
curve_to o start i [] = start
curve_to o start i (j ∷ js) = cond (on_curve o j) (Point j) (Between i j)

-- the legs from these points on; `on`: whether the point in front of them is on the curve
unfoldable pub legs : Points → Spot → Bool → List ℕ → List Leg
legs o start on [] = []
legs o start on (i ∷ is) = cond (on_curve o i) (cond on (line i ∷ legs o start true is) (legs o start true is)) (curve i (curve_to o start i is) ∷ legs o start false is)

-- ---- the contour from a to e
-- where it starts, and the points that it then walks by
pub record Tour : Type 0 where
  pub start : Spot
  pub walk : List ℕ

unfoldable pub tour_by : ℕ → ℕ → List ℕ → List ℕ → Tour
tour_by a e before [] = record { start = Between e a; walk = from a (suc e - a) }
tour_by a e before (f ∷ behind) = record { start = Point f; walk = behind ++ before }

unfoldable pub tour_of : Points → ℕ → ℕ → Tour
tour_of o a e = tour_by a e (front o (from a (suc e - a))) (rest o (from a (suc e - a)))

abbrev pub legs_of : Points → Tour → List Leg
legs_of o t = legs o t.start true t.walk

-- a move to its start, its legs, and a close
abbrev pub picture_of : Points → Tour → List PathStep
picture_of o t = Move (spot_place o t.start) ∷ (pictures o (legs_of o t) ++ (Close ∷ []))
