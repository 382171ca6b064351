-- What a call may use of edges and segments that it accepts; inner functions require these.
use Rattle.std.specs.Prelude.{Some}
use Rattle.std.specs.Prelude.{◌≡◌, ℕ, ◌≤◌, ◌<◌, ℤ}
use Rattle.signed.specs.Range.{Between}
use Rattle.axis.specs.Link.{Link}
use Rattle.axis.specs.Link.{Blue}
use Rattle.axis.specs.declared.edge.Edge.{Edge}
use Rattle.axis.specs.declared.edge.Axis.{Axis}
use Rattle.axis.specs.declared.segment.Segment.{Segment}
use Rattle.axis.specs.declared.segment.Segments.{Segments}
use Rattle.axis.specs.Edge.{edge_at}
use Rattle.axis.specs.Segment.{segment_at}
use Rattle.axis.specs.Limits.{most_segments, most_edges, most_units, most_score}

-- an index, where there is one, is below n
pub record Below (n : ℕ) (l : Link) : Type 0 where
  pub at : (k : ℕ) → l ≡ Some k → k < n

-- a blue's fitted position, where there is one, is within the table
pub record InZone (b : Blue) : Type 0 where
  pub at : (z : ℤ) → b ≡ Some z → Between most_units most_units z

-- an edge of n, with its position within m: document 01's limit at first, and what a pass has come to later
pub record EdgeWithin (m n : ℕ) (e : Edge) : Type 0 where
  pub opos : Between most_units most_units e.opos
  pub pos : Between m m e.pos
  pub blue : InZone e.blue
  pub link : Below n e.link
  pub serif : Below n e.serif

-- an axis whose edges are such
pub record AxisWithin (m : ℕ) (axis : Axis) : Type 0 where
  pub few : axis.len ≤ most_edges
  pub edge : (i : ℕ) → i < axis.len → EdgeWithin m axis.len (edge_at axis i)

-- a segment of n
pub record SegmentWithin (n : ℕ) (s : Segment) : Type 0 where
  pub score : Between 0 most_score s.score
  pub len : Between 0 most_score s.len
  pub link : Below n s.link
  pub serif : Below n s.serif

-- a table whose segments are such
pub record SegmentsWithin (t : Segments) : Type 0 where
  pub few : t.len ≤ most_segments
  pub segment : (i : ℕ) → i < t.len → SegmentWithin t.len (segment_at t i)
