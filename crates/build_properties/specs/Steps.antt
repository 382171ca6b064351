-- What the properties of edges require of a built axis and its segments.
use Rattle.std.specs.Prelude.{ℕ, ◌≤◌, ◌<◌}
use Rattle.axis.specs.declared.edge.Axis.{Axis}
use Rattle.axis.specs.declared.edge.Edge.{Edge}
use Rattle.axis.specs.declared.segment.Segment.{Segment}
use Rattle.axis.specs.declared.segment.Segments.{Segments}
use Rattle.axis.specs.Accepted.{Below}
use Rattle.axis.specs.Edge.{edge_at}
use Rattle.axis.specs.Limits.{most_edges, most_segments}
use Rattle.axis.specs.Ring.{AllWalked}
use Rattle.axis.specs.Segment.{segment_at}

-- link and serif of an edge of n are edges
pub record EdgeBelow (n : ℕ) (e : Edge) : Type 0 where
  pub link : Below n e.link
  pub serif : Below n e.serif

-- link and serif of a segment of m are segments, and its edge is one of n
pub record SegmentBelow (n m : ℕ) (s : Segment) : Type 0 where
  pub link : Below m s.link
  pub serif : Below m s.serif
  pub edge : Below n s.edge

-- counts within the tables, indices below the counts, and rings that end
pub record Ready (axis : Axis) (t : Segments) : Type 0 where
  pub few-edges : axis.len ≤ most_edges
  pub few-segments : t.len ≤ most_segments
  pub edge : (k : ℕ) → k < axis.len → EdgeBelow axis.len (edge_at axis k)
  pub segment : (i : ℕ) → i < t.len → SegmentBelow axis.len t.len (segment_at t i)
  pub rings : AllWalked axis t
