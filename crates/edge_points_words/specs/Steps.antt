-- What the steps of the call need.
use Rattle.std.specs.Prelude.{◌≡◌, Bool, true, List, ℕ, ◌≤◌, ℤ}
use Rattle.axis.specs.Limits.{most_pos}
use Rattle.axis.specs.Accepted.{AxisWithin}
use Rattle.weak_contour.specs.Limits.{most_points}
use Rattle.weak.specs.Weak.{ends_hold}
use Rattle.turn.specs.Indices.{segments_edges}
use Rattle.words.specs.Edge.{edges_in}
use Rattle.words.specs.Segment.{flat_segments}
use Rattle.words_call.specs.Lent.{edges_of}
use Rattle.words_edge.specs.Whole as Edges
use Rattle.words_segment.specs.Whole as Segments
use Rattle.edge_points.specs.EdgePoints.{segments_points, movers_hold}

-- both tables and the contour ends of n points are not refused
pub record Accepted (ws es : List ℤ) (alone : Bool) (n : ℕ) (ends : List ℕ) : Type 0 where
  pub segments : Segments.Whole ws
  pub edges : Edges.Whole es
  pub few : n ≤ most_points
  pub to_edges : segments_edges (edges_in es) (flat_segments ws) ≡ true
  pub in_range : AxisWithin most_pos (edges_of es)
  pub contours : ends_hold 0 n ends ≡ true
  pub on_one : segments_points ends (flat_segments ws) ≡ true
  pub movers : movers_hold alone (edges_of es) (flat_segments ws) ≡ true
