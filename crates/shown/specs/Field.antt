-- The field of pixels: 2,048 columns and rows, from 65,536 units left of and below 0 on.
use Rattle.std.specs.Prelude.{List, ℕ, ◌*◌, ◌≤◌, ◌<◌, ℤ, nat_abs}
use Rattle.weak_contour.specs.Contour.{at}
use Rattle.weak_contour.specs.Limits.{most_coordinate}
use Rattle.path_trip.specs.Path.{Points}

-- units from its left side, or from its lower one, to 0
abbrev pub field_half : ℕ
field_half = 65536

-- coordinates are multiplied by at most this
abbrev pub most_magnify : ℕ
most_magnify = 64

-- the coordinates of a list, magnified, are within the field
abbrev pub Reach : ℕ → List ℤ → Type 0
Reach m l = (i : ℕ) → m * nat_abs (at l i) ≤ most_coordinate

-- and those of all points
pub record InField (o : Points) (m : ℕ) : Type 0 where
  pub some : 0 < m
  pub most : m ≤ most_magnify
  pub wide : Reach m o.xs
  pub high : Reach m o.ys
