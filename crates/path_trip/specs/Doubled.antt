-- The whole number that a place of a path is made of.
use Rattle.std.specs.Prelude.{List, ℤ, ◌+ℤ◌}
use Rattle.weak_contour.specs.Contour.{at}
use Rattle.path_trip.specs.declared.tour.Spot.{Spot}
use Rattle.path_trip.specs.declared.tour.Spot.TheVariants.{Point, Between}

-- twice the coordinate of a place, in units: this over 128 is its number in pixels
abbrev pub doubled : List ℤ → Spot → ℤ
doubled l (Point i) = at l i +ℤ at l i
doubled l (Between i j) = at l i +ℤ at l j
