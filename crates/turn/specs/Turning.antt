-- Request #114's converter: a table of edges that was saved in the other order is turned over.
use Rattle.std.specs.Prelude.{None, Some}
use Rattle.std.specs.Prelude.{◌≡◌, List, [], ◌∷◌, ◌++◌, map, reverse, ℕ, ◌-◌, take, drop}
use Rattle.refusals.specs.Refusal.{Test, refusal, answered}
use Rattle.axis.specs.declared.edge.Edge.{Edge}
use Rattle.axis.specs.declared.edge.Axis.{Axis}
use Rattle.axis.specs.Link.{Link}
use Rattle.axis.specs.declared.segment.Segment.{Segment}
use Rattle.axis.specs.declared.segment.Segments.{Segments}
use Rattle.axis.specs.Edge.{joined_to}
use Rattle.axis.specs.Mark.{unmarked_axis}
use Rattle.axis.specs.Refusals.{edges_in_range, segments_in_range}
use Rattle.turn.specs.Answer.{Turned}
use Rattle.turn.specs.Indices.{index_tests}

-- ---- indices
-- edge k of m, counted from the other end
abbrev pub turned_index : ℕ → ℕ → ℕ
turned_index m k = m - 1 - k

-- the index of an edge, where there is one
abbrev pub turned_link : ℕ → Link → Link
turned_link m None = None
turned_link m (Some k) = Some (turned_index m k)

-- ---- edges and segments
-- one of m edges: link and serif are renumbered, everything else is as it was
abbrev pub turned_edge : ℕ → Edge → Edge
turned_edge m e = joined_to e (turned_link m e.link) (turned_link m e.serif)

-- a segment of an axis of m edges: its edge is renumbered, everything else is as it was
abbrev pub turned_segment : ℕ → Segment → Segment
turned_segment m s = record {
  flags = s.flags;
  dir = s.dir;
  pos = s.pos;
  delta = s.delta;
  min_coord = s.min_coord;
  max_coord = s.max_coord;
  height = s.height;
  score = s.score;
  len = s.len;
  link = s.link;
  serif = s.serif;
  first = s.first;
  last = s.last;
  edge = turned_link m s.edge;
  next = s.next;
}

-- ---- tables
-- a table's first m edges in the other order, each renumbered; the places behind them are as they were
abbrev pub turned_edges : ℕ → List Edge → List Edge
turned_edges m es = map (turned_edge m) (reverse (take m es)) ++ drop m es

unfoldable pub turned_axis : Axis → Axis
turned_axis axis = record { dim = axis.dim; major_dir = axis.major_dir; edges = turned_edges axis.len axis.edges; len = axis.len }

-- the segments of an axis of m edges in their order, each renumbered; the places behind them are as they were
unfoldable pub turned_segments : ℕ → Segments → Segments
turned_segments m t = record { segments = map (turned_segment m) (take t.len t.segments) ++ drop t.len t.segments; len = t.len }

-- ---- the call
-- its tests in document 01's order: both lists are given, so every index is tested, and then numbers
abbrev pub turning_tests : Axis → Segments → List Test
turning_tests axis t = index_tests axis t ++ (segments_in_range t ∷ edges_in_range axis ∷ [])

-- an answer beside an axis and its segments
abbrev pub beside : Axis → Segments → ℕ → Turned
beside axis t k = record { answer = k; axis = axis; segments = t }

-- the same without marks
abbrev pub without_marks : Turned → Turned
without_marks r = beside (unmarked_axis r.axis) r.segments r.answer

-- what the call hands back: the axis and its segments turned over beside 0, or both as they were beside the refusal
unfoldable pub turn_over : Axis → Segments → Turned
turn_over axis t = answered (refusal (turning_tests axis t)) (beside axis t) (beside (turned_axis axis) (turned_segments axis.len t) 0)

-- what the call owes its caller: the answer, the axis and the segments
abbrev pub TurnsOver : Axis → Segments → Turned → Type 0
TurnsOver axis t r = r ≡ turn_over axis t
