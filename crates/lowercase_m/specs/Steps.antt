-- What the steps of the m rule promise each other.
use Rattle.std.specs.Prelude.{ℕ, ◌+◌, ◌≤◌, ◌<◌}
use Rattle.signed.specs.Range.{Between}
use Rattle.axis.specs.declared.edge.Axis.{Axis}
use Rattle.axis.specs.Edge.{edge_at}
use Rattle.axis.specs.Limits.{most_edges, most_pos}
use Rattle.lowercase_m.specs.declared.stems.Stems.{Stems}
use Rattle.lowercase_m.specs.M.{most_delta}

-- what a position can be before the moves, and after one, two and three of them
abbrev pub unmoved : ℕ
unmoved = most_pos

abbrev pub once_moved : ℕ
once_moved = unmoved + most_delta

abbrev pub twice_moved : ℕ
twice_moved = once_moved + most_delta

abbrev pub thrice_moved : ℕ
thrice_moved = twice_moved + most_delta

-- the positions of the edges are within m
pub record Places (m : ℕ) (axis : Axis) : Type 0 where
  pub few : axis.len ≤ most_edges
  pub at : (i : ℕ) → i < axis.len → Between m m (edge_at axis i).pos

-- the stems are places of the table
pub record InTable (s : Stems) : Type 0 where
  pub first : s.first ≤ most_edges
  pub second : s.second ≤ most_edges
  pub third : s.third ≤ most_edges

-- the stems are edges of the axis
pub record StemsOf (axis : Axis) (s : Stems) : Type 0 where
  pub few : axis.len ≤ most_edges
  pub first_below : s.first < axis.len
  pub second_below : s.second < axis.len
  pub third_below : s.third < axis.len
