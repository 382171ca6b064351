-- One call from edges to points: its tests over all that is given, in document 01's order, and behind them the calls on edges and on points in a row. Beside a refusal, one of those on the way
-- too, everything lent is as it came.
use Rattle.std.specs.Prelude.{Bool, ◌&&◌, List, [], ◌∷◌, ◌++◌, ℕ, ◌%◌, eqb, leb, length, ℤ, pos}
use Rattle.refusals.specs.Refusal.{Test, ◌unless◌, bad_parameter, bad_index, refusal, answered}
use Rattle.fixed.specs.Width.{rule_holds}
use Rattle.axis.specs.declared.edge.Axis.{Axis}
use Rattle.axis.specs.declared.segment.Segments.{Segments}
use Rattle.axis.specs.Limits.{most_edges, most_segments, most_units}
use Rattle.axis.specs.Refusals.{inside, segments_short, edges_short, segments_in_range, edges_in_range}
use Rattle.weak_contour.specs.Limits.{most_points, most_coordinate}
use Rattle.weak.specs.Weak.{ends_hold, range_tests}
use Rattle.turn.specs.Indices.{index_tests}
use Rattle.zones_stems.specs.Joined.{zones_hold}
use Rattle.edge_points.specs.EdgePoints.{Points, segments_points}
use Rattle.strong.specs.Strong.{list_tests}
use Rattle.words.specs.Field.{link_word}
use Rattle.words.specs.Edge.{edge_size, edges_in}
use Rattle.words.specs.Segment.{segment_size, segments_in, flat_segments}
use Rattle.words_shape.specs.Shape.{edges_shown, segments_shown}
use Rattle.words_call.specs.Lent.{Lent, front, edges_of}
use Rattle.words_edge.specs.Whole.{axis_in}
use Rattle.fit.specs.declared.numbers.Numbers.{Numbers}
use Rattle.fit.specs.Answer.{FittedEdges}
use Rattle.fit.specs.Numbers.{number_size, numbers_of, numbers_shown}
use Rattle.fit.specs.Edges.{Left, fit_edges}
use Rattle.fit.specs.Points.{LeftPoints, fit_points}

-- ---- what is given and not written
-- the words of the segments, the standards, font positions, originals, weak marks and contour ends; the numbers stand beside them
pub record Given : Type 0 where
  pub segments : List ℤ
  pub standards : List ℤ
  pub fonts : List ℤ
  pub originals : List ℤ
  pub weak : List ℕ
  pub ends : List ℕ

abbrev pub given : List ℤ → List ℤ → List ℤ → List ℤ → List ℕ → List ℕ → Given
given segments standards fonts originals weak ends =
    record { segments = segments; standards = standards; fonts = fonts; originals = originals; weak = weak; ends = ends }

-- ---- what is lent
-- the words of the edges, the currents and touch marks of the points, and the words that are handed back
pub record Fitted : Type 0 where
  pub edges : List ℤ
  pub points : Points
  pub told : List ℤ

abbrev pub fitted : List ℤ → Points → List ℤ → Fitted
fitted edges points told = record { edges = edges; points = points; told = told }

-- how many words are handed back
abbrev pub told_size : ℕ
told_size = 9

-- the gaps and the stems lost, the edges not done; the edges of the first lost pair and its widths before and after; the edges that stems passed over, and the anchor
abbrev pub told_words : FittedEdges → List ℤ
told_words r =
    pos r.gaps.count ∷ pos r.gaps.stems ∷ pos r.gaps.not_done ∷ link_word r.gaps.pair.first ∷ link_word r.gaps.pair.second ∷ r.gaps.pair.before
    ∷ r.gaps.pair.after ∷ pos r.count ∷ link_word r.anchor ∷ []

-- ---- the tests
-- in front: every length is one of whole records or the one that is asked for; there are not too many segments, edges and points, and as many of each of a point's numbers; every word is one of
-- its field
unfoldable pub fit_front : List ℤ → List ℤ → List ℤ → List ℤ → List ℕ → Fitted → List Test
fit_front segments numbers fonts originals weak l =
    front
    ((eqb (length segments % segment_size) 0 && eqb (length l.edges % edge_size) 0) && (eqb (length numbers) number_size && eqb (length l.told) told_size))
    ((leb (segments_in segments) most_segments && leb (edges_in l.edges) most_edges) && eqb (refusal (list_tests fonts originals l.points.currents l.points.touched weak)) 0)
    ((segments_shown segments && edges_shown l.edges) && numbers_shown numbers)

-- those of the numbers: the width rule, the guard's least width, and no zone where the group has none
abbrev pub number_tests : Numbers → List ℤ → Axis → List Test
number_tests n xs axis =
    bad_parameter unless rule_holds n.rule xs ∷ bad_parameter unless inside (pos 0) (pos most_units) n.least ∷ bad_parameter unless zones_hold n.group axis ∷ []

-- those of both tables and of the contours, and then of the coordinates
abbrev pub table_tests : Axis → Segments → ℕ → List ℕ → List Test
table_tests axis t count es = index_tests axis t ++ (bad_index unless ends_hold 0 count es ∷ bad_index unless segments_points es t ∷ segments_in_range t ∷ edges_in_range axis ∷ [])

-- all of them, of the words of segments ss and of edges ws
abbrev pub axis_tests : Numbers → List ℤ → List ℤ → List ℤ → List ℤ → List ℤ → List ℕ → List Test
axis_tests n xs ss ws o c es = number_tests n xs (axis_in ws n.dim) ++ (table_tests (edges_of ws) (flat_segments ss) (length o) es ++ range_tests most_coordinate o c)

abbrev pub fit_tests : Numbers → Given → Fitted → List Test
fit_tests n g l = axis_tests n g.standards g.segments l.edges g.originals l.points.currents g.ends

-- ---- the rows
-- an answer, and what is left of everything lent
pub record Outcome : Type 0 where
  pub answer : ℕ
  pub left : Fitted

abbrev pub refused_fit : Fitted → ℕ → Outcome
refused_fit l k = record { answer = k; left = l }

abbrev pub behind_points : Fitted → Left → LeftPoints → Outcome
behind_points l e p = answered p.answer (refused_fit l) (record { answer = 0; left = fitted e.words p.points (told_words e.told) })

abbrev pub behind_edges : Numbers → Given → Fitted → Left → Outcome
behind_edges n g l e =
    answered e.told.answer (refused_fit l) (behind_points l e (fit_points n g.segments e.words g.fonts g.originals g.weak g.ends l.points))

-- the edges fitted, and then the points
unfoldable pub fit_in_row : Numbers → Given → Fitted → Outcome
fit_in_row n g l = behind_edges n g l (fit_edges n g.standards l.edges)

-- ---- the call
unfoldable pub fit_axis : Numbers → Given → Fitted → Outcome
fit_axis n g l = answered (refusal (fit_tests n g l)) (refused_fit l) (fit_in_row n g l)

-- what it owes its caller, of the words of the numbers: its answer, and everything lent
abbrev pub FitLent : List ℤ → Given → Fitted → ℕ → Fitted → Type 0
FitLent ns g l =
    Lent (fit_front g.segments ns g.fonts g.originals g.weak l) (fit_axis (numbers_of ns) g l).answer (fit_axis (numbers_of ns) g l).left l
