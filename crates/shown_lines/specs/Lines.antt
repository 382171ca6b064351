-- The lines of an outline in one row of pixels: what they wind is added to a row of changes, of which column k is column `left` + k of the field.
use Rattle.std.specs.Prelude.{◌≡◌, List, [], ◌∷◌, ℕ, zero, suc, ◌+◌, ◌*◌, ◌%◌, ◌≤◌, ◌<◌, length}
use Rattle.path_trip.specs.Path.{Points}
use Rattle.path_trip.specs.declared.tour.Spot.{Spot}
use Rattle.path_trip.specs.declared.tour.Spot.TheVariants.{Point, Between}
use Rattle.path_walk.specs.declared.walk.End.{End}
use Rattle.path_walk.specs.declared.walk.End.TheVariants as Ends
use Rattle.shown_rows.specs.Chains.{place_at}
use Rattle.shown_rows.specs.Changes.{up_to}
use Rattle.shown_rows.specs.Crossing.{centre}
pub use Rattle.shown.specs.Field.{field_half, most_magnify, Reach, InField}
use Rattle.shown.specs.Shown.{Place, Side, side, halves, ups, downs}
use Rattle.shown_lines.specs.declared.place.Halves.{Halves}

-- ---- the field
-- twice a coordinate in the field is below this, from the field's corner on
abbrev pub most_halves : ℕ
most_halves = 262144

-- ---- places
-- a place is within the field
pub record Near (p : Halves) : Type 0 where
  pub x_less : p.x < most_halves
  pub y_less : p.y < most_halves

-- the place of a spot, in halves
abbrev pub halves_at : Points → ℕ → Spot → Halves
halves_at o m s = record { x = halves field_half m o.xs s; y = halves field_half m o.ys s }

-- and that of a curve's end, of a contour that starts here
abbrev pub end_at : Points → ℕ → Halves → End → Halves
end_at o m start Ends.Start = start
end_at o m start (Ends.Point i) = halves_at o m (Point i)
end_at o m start (Ends.Between i j) = halves_at o m (Between i j)

-- a place in 512ths
abbrev pub placed : ℕ → ℕ → Place
placed x y = record { x = x; y = y }

-- the line from p to q
abbrev pub straight : Halves → Halves → Side
straight p q = side (placed (256 * p.x) (256 * p.y)) (placed (256 * q.x) (256 * q.y))

-- the place at k / 16 of the curve from p by c to q
abbrev pub place_on : Halves → Halves → Halves → ℕ → Place
place_on p c q k = placed (place_at p.x c.x q.x k) (place_at p.y c.y q.y k)

-- the n lines of this curve from k / 16 on
unfoldable pub curve_sides : Halves → Halves → Halves → ℕ → ℕ → List Side
curve_sides p c q k zero = []
curve_sides p c q k (suc n) = side (place_on p c q k) (place_on p c q (suc k)) ∷ curve_sides p c q (suc k) n

-- three heights are all above y, or none is
pub data OneSide (p c q y : ℕ) : Type 0 where
  none_above : 256 * p ≤ y → 256 * c ≤ y → 256 * q ≤ y → OneSide p c q y
  all_above : y < 256 * p → y < 256 * c → y < 256 * q → OneSide p c q y

-- a line from the height a to the height b does not pass y
pub data Stays (a b y : ℕ) : Type 0 where
  below : a ≤ y → b ≤ y → Stays a b y
  above : y < a → y < b → Stays a b y

-- ---- what lines wind
-- what the lines ss wind is added to the row of changes, in the row at the height y
pub record Wound (ss : List Side) (left y : ℕ) (l l' : List ℕ) : Type 0 where
  pub as_long : length l' ≡ length l
  pub sums : (i : ℕ) → i < length l → up_to l' i % 65536 ≡ (up_to l i + ups ss (centre (left + i)) y + 65535 * downs ss (centre (left + i)) y) % 65536
