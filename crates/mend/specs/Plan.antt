-- An axis as lists of numbers, from which its rings are told and made anew, and what is written by them.
use Rattle.std.specs.Prelude.{Some}
use Rattle.std.specs.Prelude.{◌≡◌, Bool, false, not, cond, List, ℕ, ◌<◌, ltb, get_or}
use Rattle.axis.specs.declared.edge.Axis.{Axis}
use Rattle.axis.specs.declared.edge.Edge.{Edge}
use Rattle.axis.specs.Link.{Link}
use Rattle.axis.specs.declared.segment.Segment.{Segment}
use Rattle.axis.specs.declared.segment.Segments.{Segments}
use Rattle.axis.specs.Edge.{edge_at}
use Rattle.axis.specs.Limits.{most_edges}
use Rattle.axis.specs.Link.{index_or}
use Rattle.axis.specs.Segment.{segment_at}
use Rattle.axis.specs.Ring.{led_to, is_sound}
use Rattle.mend.specs.Mended.{kept, segment_with, edge_with, front_by}
use Rattle.mend.specs.Altered.{Alteration, of_segment, of_edge, in_order}

-- the edge of each segment, where there is none the number of places for edges; and the segment behind it, where there is none the count
pub record Gathered (t : Segments) (edges next : List ℕ) : Type 0 where
  pub edge_of : (i : ℕ) → i < t.len → get_or edges i 0 ≡ index_or most_edges (segment_at t i).edge
  pub next_of : (i : ℕ) → i < t.len → get_or next i 0 ≡ led_to t i

-- which rings are broken
pub record Told (axis : Axis) (t : Segments) (broken : List Bool) : Type 0 where
  pub ring : (k : ℕ) → k < axis.len → get_or broken k false ≡ not (is_sound axis t k)

-- ---- what is written by these lists
-- the next of a segment: with an edge the number that it is led to, in a sound ring its own; without one none where its own is beyond the list
abbrev pub planned_next : ℕ → ℕ → ℕ → Link → Link
planned_next n edge led next = cond (ltb edge most_edges) (Some led) (kept n next)

-- a segment of n by its edge and what it is led to, and segment i by the lists
abbrev pub planned_segment : ℕ → ℕ → ℕ → Segment → Segment
planned_segment n edge led s = segment_with s (kept n s.link) (kept n s.serif) (planned_next n edge led s.next)

abbrev pub segment_by : ℕ → List ℕ → List ℕ → ℕ → Segment → Segment
segment_by n edges next i s = planned_segment n (get_or edges i 0) (get_or next i 0) s

-- an edge of m: the first and last segment of a broken ring
abbrev pub planned_edge : ℕ → Bool → ℕ → ℕ → Edge → Edge
planned_edge m broken first last e = edge_with e (kept m e.link) (kept m e.serif) (cond broken first e.first) (cond broken last e.last)

abbrev pub edge_by : ℕ → List Bool → List ℕ → List ℕ → ℕ → Edge → Edge
edge_by m broken firsts lasts k e = planned_edge m (get_or broken k false) (get_or firsts k 0) (get_or lasts k 0) e

-- the tables, and what is listed of them
unfoldable pub planned_segments : List ℕ → List ℕ → Segments → Segments
planned_segments edges next t = record { segments = front_by (segment_by t.len edges next) t.len t.segments; len = t.len }

unfoldable pub planned_axis : List Bool → List ℕ → List ℕ → Axis → Axis
planned_axis broken firsts lasts axis =
    record { dim = axis.dim; major_dir = axis.major_dir; edges = front_by (edge_by axis.len broken firsts lasts) axis.len axis.edges; len = axis.len }

abbrev pub segments_listed : List ℕ → List ℕ → Segments → ℕ → List Alteration
segments_listed edges next t n = in_order (λ (i : ℕ). of_segment i (segment_at t i) (segment_by t.len edges next i (segment_at t i))) n

abbrev pub edges_listed : List Bool → List ℕ → List ℕ → Axis → ℕ → List Alteration
edges_listed broken firsts lasts axis m = in_order (λ (k : ℕ). of_edge k (edge_at axis k) (edge_by axis.len broken firsts lasts k (edge_at axis k))) m
