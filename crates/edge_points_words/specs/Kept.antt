-- Which points the call can change: those that a walk leads over.
use Rattle.std.specs.Prelude.{None, Some}
use Rattle.std.specs.Prelude.{◌≡◌, Bool, cond, List, [], ℕ, ◌<◌, length, get_or}
use Rattle.std.proofs.Math.Option.{Option, some, none}
use Rattle.axis.specs.declared.edge.Edge.{Edge}
use Rattle.axis.specs.declared.edge.Axis.{Axis}
use Rattle.axis.specs.Link.{Link}
use Rattle.axis.specs.declared.segment.Segment.{Segment}
use Rattle.axis.specs.declared.segment.Segments.{Segments}
use Rattle.axis.specs.Edge.{edge_at}
use Rattle.axis.specs.Ring.{times}
use Rattle.axis.specs.Segment.{segment_at}
use Rattle.weak_contour.specs.Contour.{at, Contour}
use Rattle.weak.specs.Weak.{contour_of}
use Rattle.edge_points.specs.EdgePoints.{Points, walked, moves}

-- the points from a segment's first to its last on a contour, where its edge e moves points
unfoldable pub walk_on : Bool → Segment → Edge → Option Contour → List ℕ
walk_on alone g e none = []
walk_on alone g e (some k) = cond (moves alone e) (walked k g.first g.last) []

-- by its edge in the axis, where it has one
unfoldable pub walk_along : Bool → Axis → List ℕ → Segment → Link → List ℕ
walk_along alone axis es g None = []
walk_along alone axis es g (Some k) = walk_on alone g (edge_at axis k) (contour_of 0 es g.first)

-- the walk of segment i of the table
abbrev pub walk_of : Bool → Axis → Segments → List ℕ → ℕ → List ℕ
walk_of alone axis t es i = walk_along alone axis es (segment_at t i) (segment_at t i).edge

-- no walk leads over the point p
abbrev pub Unmet : Bool → Axis → Segments → List ℕ → ℕ → Type 0
Unmet alone axis t es p = (i : ℕ) → i < t.len → times p (walk_of alone axis t es i) ≡ 0

-- as many points and marks, and those that are free keep their current and their mark
pub record PointsKept (free : ℕ → Type 0) (s s' : Points) : Type 0 where
  pub currents_size : length s'.currents ≡ length s.currents
  pub marks_size : length s'.touched ≡ length s.touched
  pub current : (p : ℕ) → free p → at s'.currents p ≡ at s.currents p
  pub mark : (p : ℕ) → free p → get_or s'.touched p 0 ≡ get_or s.touched p 0
