-- What the steps of the row need and leave. The words of segments are ss and those of edges ws; an outline is its points' font positions f, originals o, weak marks w, currents and touch marks
-- s, and contour ends es.
use Rattle.std.specs.Prelude.{◌≡◌, true, List, ℕ, length, ℤ}
use Rattle.refusals.specs.Refusal.{refusal}
use Rattle.axis.specs.Handed.{EdgesAccepted}
use Rattle.axis.specs.Refusals.{segments_numbers}
use Rattle.weak_contour.specs.Limits.{most_coordinate}
use Rattle.weak.specs.Weak.{ends_hold, coordinates_hold}
use Rattle.turn.specs.Indices.{index_tests}
use Rattle.edge_points.specs.EdgePoints.{Points, segments_points}
use Rattle.strong.specs.Strong.{list_tests}
use Rattle.words.specs.Segment.{flat_segments}
use Rattle.words_call.specs.Lent.{edges_of}
use Rattle.words_edge.specs.Whole as Edges
use Rattle.words_segment.specs.Whole as Segments
use Rattle.fit.specs.Points.{LeftPoints}

-- ---- what a step may use
-- strong points: accepted edges, as many of each of a point's numbers, contours of them, and originals that are coordinates
pub record ReadyStrong (ws f o : List ℤ) (w es : List ℕ) (s : Points) : Type 0 where
  pub whole : Edges.Whole ws
  pub edges : EdgesAccepted (edges_of ws)
  pub lists : refusal (list_tests f o s.currents s.touched w) ≡ 0
  pub contours : ends_hold 0 (length s.currents) es ≡ true
  pub originals : coordinates_hold most_coordinate o ≡ true

-- the first step: no test refuses the tables and the outline but that of the edges by which points are moved
pub record Ready (ss ws f o : List ℤ) (w es : List ℕ) (s : Points) : Type 0 where
  pub segments : Segments.Whole ss
  pub strong : ReadyStrong ws f o w es s
  pub indices : refusal (index_tests (edges_of ws) (flat_segments ss)) ≡ 0
  pub on_one : segments_points es (flat_segments ss) ≡ true
  pub in_range : segments_numbers (flat_segments ss) ≡ true
  pub near : coordinates_hold most_coordinate s.currents ≡ true

-- ---- what it makes
-- the rest of the row d: its answer, and where nothing refuses its points
pub record WentPoints (d : LeftPoints) (r : ℕ) (s : Points) : Type 0 where
  pub answer : r ≡ d.answer
  pub goes : r ≡ 0 → s ≡ d.points
