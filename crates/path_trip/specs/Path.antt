-- The path of an outline (request #101): its steps, in order.
use Rattle.std.specs.Prelude.{Bool, true, false, cond, List, [], ◌∷◌, ◌++◌, ℕ, zero, suc, ◌-◌, ltb, get_or, ℤ}
use Rattle.weak_contour.specs.Contour.{at}
use Rattle.path_places.specs.Places.{point_at, halfway_at}
use Rattle.path_places.specs.declared.PixelPoint.{PixelPoint}
use Rattle.path_trip.specs.declared.step.PathStep.{PathStep}
use Rattle.path_trip.specs.declared.step.PathStep.TheVariants.{Move, Line, Curve, Close}

-- the points of an outline: their fitted coordinates in units, and their marks
pub record Points : Type 0 where
  pub xs : List ℤ
  pub ys : List ℤ
  pub marks : List ℕ

-- these lists as points
abbrev pub points : List ℤ → List ℤ → List ℕ → Points
points xs ys marks = record { xs = xs; ys = ys; marks = marks }

-- ---- places, in pixels
-- the place of the point i
abbrev pub place : Points → ℕ → PixelPoint
place o i = point_at (at o.xs i) (at o.ys i)

-- halfway between the points i and j
abbrev pub middle : Points → ℕ → ℕ → PixelPoint
middle o i j = halfway_at (at o.xs i) (at o.ys i) (at o.xs j) (at o.ys j)

-- a nonzero mark means on the curve
abbrev pub on_curve : Points → ℕ → Bool
on_curve o i = ltb 0 (get_or o.marks i 0)

-- ---- one contour: the points from a to e
-- the n points from a on
unfoldable pub from : ℕ → ℕ → List ℕ
from a zero = []
from a (suc n) = a ∷ from (suc a) n

-- those in front of the first on-curve point
unfoldable pub front : Points → List ℕ → List ℕ
front o [] = []
front o (i ∷ is) = cond (on_curve o i) [] (i ∷ front o is)

-- the first on-curve point and those behind it
unfoldable pub rest : Points → List ℕ → List ℕ
rest o [] = []
rest o (i ∷ is) = cond (on_curve o i) (i ∷ is) (rest o is)

-- where a contour starts, and the points that it then walks by
pub record Round : Type 0 where
  pub start : PixelPoint
  pub walk : List ℕ

-- from its first on-curve point, once around from the point behind it; or, with none, from halfway between its last and first point, from its first point on
unfoldable pub round_by : Points → ℕ → ℕ → List ℕ → List ℕ → Round
round_by o a e before [] = record { start = middle o e a; walk = from a (suc e - a) }
round_by o a e before (f ∷ behind) = record { start = place o f; walk = behind ++ before }

-- the start and the walk of the contour from a to e
unfoldable pub round_of : Points → ℕ → ℕ → Round
round_of o a e = round_by o a e (front o (from a (suc e - a))) (rest o (from a (suc e - a)))

-- where the curve by the off-curve point i ends, with these points to come: at the start behind the last, at an on-curve point, or halfway to an off-curve one
unfoldable pub curve_end : Points → PixelPoint → ℕ → List ℕ → PixelPoint
curve_end o start i [] = start
curve_end o start i (j ∷ js) = cond (on_curve o j) (place o j) (middle o i j)

-- the steps from these points on; `on`: whether the point in front of them is on the curve. An off-curve point gives a curve; an on-curve point gives a line
-- behind an on-curve one, and nothing behind an off-curve one, whose curve ends there
unfoldable pub walked : Points → PixelPoint → Bool → List ℕ → List PathStep
walked o start on [] = Close ∷ []
walked o start on (i ∷ is) =
    cond (on_curve o i)
    (cond on (Line (place o i) ∷ walked o start true is) (walked o start true is))
    (Curve (place o i) (curve_end o start i is) ∷ walked o start false is)

-- the steps of a contour: a move to its start, and those of its walk, of which the last is a close
unfoldable pub steps_of : Points → Round → List PathStep
steps_of o r = Move r.start ∷ walked o r.start true r.walk

-- ---- the outline: contour behind contour, the first from a on
unfoldable pub path_from : Points → ℕ → List ℕ → List PathStep
path_from o a [] = []
path_from o a (e ∷ es) = steps_of o (round_of o a e) ++ path_from o (suc e) es

-- the path of an outline
unfoldable pub path : Points → List ℕ → List PathStep
path o es = path_from o 0 es
