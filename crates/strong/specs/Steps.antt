-- What theorems say of edges and of the search.
use Rattle.std.specs.Prelude.{◌≡◌, ℕ, ◌-◌, ◌<◌, ◌≤◌, ℤ, ◌≤ℤ◌, ◌<ℤ◌}
use Rattle.axis.specs.declared.edge.Axis.{Axis}
use Rattle.axis.specs.Edge.{edge_at}
use Rattle.axis.specs.Handed.{Short}
use Rattle.strong.specs.Strong.{fpos_at}

-- u lies inside the edges: above the first one's font position and below the last one's
pub record Inside (axis : Axis) (u : ℤ) : Type 0 where
  pub above : fpos_at axis 0 <ℤ u
  pub below : u <ℤ fpos_at axis (axis.len - 1)

-- edge k is at or behind u, and where it is not on u the edge before it lies below u
pub record Around (axis : Axis) (u : ℤ) (k : ℕ) : Type 0 where
  pub behind_one : 0 < k
  pub inside : k < axis.len
  pub reached : u ≤ℤ fpos_at axis k
  pub passed : (u ≡ fpos_at axis k → ⊥) → fpos_at axis (k - 1) <ℤ u

-- font positions and positions of edges do not fall
pub record Rising (axis : Axis) : Type 0 where
  pub fpos : (i j : ℕ) → i ≤ j → j < axis.len → fpos_at axis i ≤ℤ fpos_at axis j
  pub pos : (i j : ℕ) → i ≤ j → j < axis.len → (edge_at axis i).pos ≤ℤ (edge_at axis j).pos

-- font positions are of 16 bits, as those of every edge that is passed
abbrev pub Shorts : Axis → Type 0
Shorts axis = (i : ℕ) → i < axis.len → Short (fpos_at axis i)
