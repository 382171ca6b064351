-- What the functions on the way to a step promise each other.
use Rattle.std.specs.Prelude.{Bool, not, cond, ◌&&◌, List, [], ◌∷◌, ℕ, zero, suc, ◌≤◌, ◌<◌, Ok, Err}
use Rattle.path_places.specs.declared.PixelPoint.{PixelPoint}
use Rattle.path_trip.specs.declared.step.PathStep.{PathStep}
use Rattle.path_trip.specs.declared.step.PathStep.TheVariants.{Line, Curve}
use Rattle.path_trip.specs.Path.{Points, place, middle, on_curve, curve_end}
use Rattle.path_walk.specs.declared.walk.End.{End}
use Rattle.path_walk.specs.declared.walk.End.TheVariants as Ends
use Rattle.path_walk.specs.Sought.{Sought}

-- step k of a list of steps, or how far k is behind its end
unfoldable pub seek : List PathStep → ℕ → Sought
seek [] k = Err k
seek (s ∷ ss) zero = Ok s
seek (s ∷ ss) (suc k) = seek ss k

-- how many steps a point gives: none on the curve behind an off-curve point, else one
abbrev pub count_of : Bool → Bool → ℕ
count_of on joined = cond (on && not joined) 0 1

-- where the curve by the off-curve point i ends, by index, with these points to come
unfoldable pub end_of : Points → ℕ → List ℕ → End
end_of o i [] = Ends.Start
end_of o i (j ∷ js) = cond (on_curve o j) (Ends.Point j) (Ends.Between i j)

-- an end is of points below n
abbrev pub EndInside : ℕ → End → Type 0
EndInside n Ends.Start = 0 ≤ n
EndInside n (Ends.Point i) = i < n
EndInside n (Ends.Between i j) = (i < n) × (j < n)

-- its place, of a contour that starts here
abbrev pub end_place : Points → PixelPoint → End → PixelPoint
end_place o start Ends.Start = start
end_place o start (Ends.Point i) = place o i
end_place o start (Ends.Between i j) = middle o i j

-- the step of the point i, where it gives one
abbrev pub step_of : Points → PixelPoint → ℕ → List ℕ → PathStep
step_of o start i is = cond (on_curve o i) (Line (place o i)) (Curve (place o i) (curve_end o start i is))
