-- The numbers of a step where it is lent: its kind, and two places. A place that a step does not have is (0, 0).
use Rattle.std.specs.Prelude.{ℕ}
use Rattle.path_places.specs.Places.{origin}
use Rattle.path_places.specs.declared.PixelPoint.{PixelPoint}
use Rattle.path_trip.specs.declared.step.PathStep.{PathStep}
use Rattle.path_trip.specs.declared.step.PathStep.TheVariants.{Move, Line, Curve, Close}

-- the number of a step's kind; 0 is that of no step
abbrev pub kind_of : PathStep → ℕ
kind_of (Move p) = 1
kind_of (Line p) = 2
kind_of (Curve p q) = 3
kind_of Close = 4

-- the place of a move or a line, the control of a curve
abbrev pub first_of : PathStep → PixelPoint
first_of (Move p) = p
first_of (Line p) = p
first_of (Curve p q) = p
first_of Close = origin

-- the end of a curve
abbrev pub second_of : PathStep → PixelPoint
second_of (Move p) = origin
second_of (Line p) = origin
second_of (Curve p q) = q
second_of Close = origin
