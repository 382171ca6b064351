-- The steps of placing, as what they make of an axis.
use Rattle.std.specs.Prelude.{None, Some}
use Rattle.std.specs.Prelude.{◌≡◌, List, ℕ, ℤ}
use Rattle.fixed.specs.declared.width.WidthRule.{WidthRule}
use Rattle.axis.specs.declared.kinds.Dimension.{Dimension}
use Rattle.axis.specs.Link.{Link}
use Rattle.axis.specs.declared.kinds.Mark.TheVariants.{Bound}
use Rattle.axis.specs.declared.edge.Axis.{Axis}
use Rattle.axis.specs.Edge.{edge_at, put_edge, placed}
use Rattle.axis.specs.Accepted.{Below}
use Rattle.place.specs.declared.adjust.LinkDir.{LinkDir}
use Rattle.place.specs.Placing.{linked_edge, serif_edge, adjusted}
use Rattle.words.specs.Edge.{edges_in}
use Rattle.words_edge.specs.Whole.{axis_in}

-- the stem edge placed by the base edge
abbrev pub linked_to : WidthRule → List ℤ → ℕ → ℕ → Axis → Axis
linked_to rule xs base stem axis = put_edge axis stem (linked_edge rule xs (edge_at axis base) (edge_at axis stem))

-- the serif edge placed by the base edge
abbrev pub serif_to : ℕ → ℕ → Axis → Axis
serif_to base serif axis = put_edge axis serif (serif_edge (edge_at axis base) (edge_at axis serif))

-- ---- the adjustment
-- an edge, moved or not
abbrev pub adjusting : ℕ → LinkDir → Axis → Axis
adjusting i dir axis = adjusted axis i dir

-- the edge at the position of another one, where there is one
abbrev pub held_at : Axis → ℕ → Link → Axis
held_at axis i None = axis
held_at axis i (Some k) = put_edge axis i (placed (edge_at axis i) (edge_at axis k).pos Bound)

-- that is the adjustment, on every dimension
pub record BoundBy (ws : List ℤ) (i : ℕ) (dir : LinkDir) (bound : Link) : Type 0 where
  pub below : Below (edges_in ws) bound
  pub axis : (d : Dimension) → held_at (axis_in ws d) i bound ≡ adjusted (axis_in ws d) i dir
