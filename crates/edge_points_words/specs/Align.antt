-- From edges to points over lent segments and edges, which are not written, two choices, and an outline whose currents and touch marks are lent; neither the dimension nor the
-- major direction of the axis is read.
use Rattle.std.specs.Prelude.{◌&&◌, List, ℕ, ◌%◌, eqb, leb, length, ℤ}
use Rattle.refusals.specs.Refusal.{Test}
use Rattle.axis.specs.Limits.{most_edges, most_segments}
use Rattle.weak_contour.specs.Limits.{most_points}
use Rattle.words.specs.Edge.{edge_size, edges_in}
use Rattle.words.specs.Field.{choice_of}
use Rattle.words.specs.Segment.{segment_size, segments_in, flat_segments}
use Rattle.words_shape.specs.Shape.{choice, edges_shown, segments_shown}
use Rattle.words_call.specs.Lent.{Lent, front, both_in, edges_of}
use Rattle.edge_points.specs.EdgePoints.{Points, edge_answer, edge_result}

-- the tests in front: both tables are of whole records; there are not too many segments, edges and points, and as many marks as points; every word is one of its field, and a choice one of two
unfoldable pub points_front : List ℤ → List ℤ → ℤ → ℤ → List ℤ → List ℕ → List Test
points_front ws es snap alone c t =
    front
    (eqb (length ws % segment_size) 0 && eqb (length es % edge_size) 0)
    ((leb (segments_in ws) most_segments && leb (edges_in es) most_edges) && (leb (length c) most_points && eqb (length t) (length c)))
    ((segments_shown ws && edges_shown es) && both_in choice snap alone)

-- what the call owes its caller: its answer, and the points that it leaves
abbrev pub EdgePointsLent : List ℤ → List ℤ → ℤ → ℤ → List ℕ → Points → ℕ → Points → Type 0
EdgePointsLent ws es snap alone ends s =
    Lent
    (points_front ws es snap alone s.currents s.touched)
    (edge_answer (choice_of alone) (edges_of es) (flat_segments ws) s ends)
    (edge_result (choice_of snap) (choice_of alone) (edges_of es) (flat_segments ws) s ends)
    s
