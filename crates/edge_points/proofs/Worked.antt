-- Points moved by hand.
use Rattle.std.specs.Prelude.{None, Some}
use mathlib.Core.Path.{◌≡◌, refl}
use mathlib.Core.Bool.{Bool, true, false}
use mathlib.Core.List.{List, [], ◌∷◌}
use Prim.Native.Nat.{ℕ}
use lib.IntN.{ℤ, pos, neg_ℤ}
use lib.ListN.{length}
use Rattle.refusals.specs.Refusal.{refusal}
use Rattle.axis.specs.declared.edge.Edge.{Edge}
use Rattle.axis.specs.declared.edge.Axis.{Axis}
use Rattle.axis.specs.declared.kinds.Dimension.TheVariants as Dimensions
use Rattle.axis.specs.declared.kinds.Direction.TheVariants as Directions
use Rattle.axis.specs.Link.{Link}
use Rattle.axis.specs.declared.kinds.Mark.TheVariants.{Stem}
use Rattle.axis.specs.declared.segment.Segment.{Segment}
use Rattle.axis.specs.declared.segment.Segments.{Segments}
use Rattle.axis.specs.Edge.{fresh_edge, placed, finished}
use Rattle.axis.specs.Refusals.{link_holds, blue_holds, every, edge_indices, edge_numbers, edges_indices, edges_numbers, segment_edge, edge_segments}
use Rattle.axis.specs.Refusals.{segment_indices, segment_next, segment_numbers, segments_indices, segments_nexts, segments_numbers}
use Rattle.axis.specs.Ring.{walk}
use Rattle.axis.specs.Segment.{empty_segment}
use Rattle.axis.specs.Visits.{visits}
use Rattle.weak.specs.Weak.{ends_hold, coordinate_holds, coordinates_hold, contour_of}
use Rattle.turn.specs.Indices.{segments_edges, edges_segments}
use Rattle.edge_points.specs.EdgePoints.{
  behind,
  Points,
  moved_by,
  move_points,
  move_segment,
  along_edge,
  visit_segment,
  move_all,
  is_on,
  on_one,
  segment_points,
  segments_points,
  mover_holds,
  movers_hold,
}
use Rattle.edge_points.specs.EdgePoints.{points_tests}

-- an edge not done that was at o and came to p, and one that is done
abbrev left : ℕ → ℤ → Edge
left o p = placed (fresh_edge (pos o) (pos o) Directions.Up 0) p Stem

abbrev done : ℕ → ℤ → Edge
done o p = finished (left o p)

-- a segment from point i to point j, with its edge
abbrev from : ℕ → ℕ → Link → Segment
from i j k = record {
  flags = empty_segment.flags;
  dir = Directions.Up;
  pos = pos 0;
  delta = pos 0;
  min_coord = pos 0;
  max_coord = pos 0;
  height = pos 0;
  score = pos 0;
  len = pos 0;
  link = None;
  serif = None;
  first = i;
  last = j;
  edge = k;
  next = None;
}

abbrev axis : List Edge → Axis
axis es = record { dim = Dimensions.Vertical; major_dir = Directions.Up; edges = es; len = length es }

abbrev table : List Segment → Segments
table ss = record { segments = ss; len = length ss }

abbrev points : List ℤ → List ℕ → Points
points c t = record { currents = c; touched = t }

-- ---- what is moved
-- two stems of one contour: the point between them stays, and keeps its mark
a : move_all true true (axis (done 0 (pos 0) ∷ done 61 (pos 64) ∷ [])) (table (from 0 1 (Some 1) ∷ from 3 4 (Some 0) ∷ [])) (4 ∷ [])
    (points (pos 61 ∷ pos 61 ∷ pos 31 ∷ pos 0 ∷ pos 0 ∷ []) (0 ∷ 0 ∷ 0 ∷ 0 ∷ 0 ∷ []))
    ≡ points (pos 64 ∷ pos 64 ∷ pos 31 ∷ pos 0 ∷ pos 0 ∷ []) (1 ∷ 1 ∷ 0 ∷ 1 ∷ 1 ∷ [])
unfolding visits visit_segment along_edge move_segment move_points moved_by walk behind contour_of
a = refl

-- a segment that goes across the start of its contour, with snap and without
abbrev seam : Bool → Points
seam snap =
    move_all snap true (axis (done 10 (pos 64) ∷ [])) (table (from 3 0 (Some 0) ∷ [])) (3 ∷ [])
    (points (pos 10 ∷ pos 5 ∷ pos 5 ∷ pos 12 ∷ []) (0 ∷ 9 ∷ 0 ∷ 7 ∷ []))

b : seam true ≡ points (pos 64 ∷ pos 5 ∷ pos 5 ∷ pos 64 ∷ []) (1 ∷ 9 ∷ 0 ∷ 1 ∷ [])
unfolding visits visit_segment along_edge move_segment move_points moved_by walk behind contour_of
b = refl

c : seam false ≡ points (pos 64 ∷ pos 5 ∷ pos 5 ∷ pos 66 ∷ []) (1 ∷ 9 ∷ 0 ∷ 1 ∷ [])
unfolding visits visit_segment along_edge move_segment move_points moved_by walk behind contour_of
c = refl

-- the whole contour
d : move_all false true (axis (done 10 (pos 64) ∷ [])) (table (from 2 1 (Some 0) ∷ [])) (3 ∷ []) (points (pos 1 ∷ pos 2 ∷ pos 3 ∷ pos 4 ∷ []) (0 ∷ 0 ∷ 0 ∷ 0 ∷ []))
    ≡ points (pos 55 ∷ pos 56 ∷ pos 57 ∷ pos 58 ∷ []) (1 ∷ 1 ∷ 1 ∷ 1 ∷ [])
unfolding visits visit_segment along_edge move_segment move_points moved_by walk behind contour_of
d = refl

-- a point of two segments: with snap the last of the table decides, without it is moved by both
abbrev shared : Bool → List Segment → Points
shared snap ss = move_all snap true (axis (done 0 (pos 5) ∷ done 0 (pos 9) ∷ [])) (table ss) (2 ∷ []) (points (pos 0 ∷ pos 0 ∷ pos 0 ∷ []) (0 ∷ 0 ∷ 0 ∷ []))

e-snap : shared true (from 0 1 (Some 0) ∷ from 1 2 (Some 1) ∷ []) ≡ points (pos 5 ∷ pos 9 ∷ pos 9 ∷ []) (1 ∷ 1 ∷ 1 ∷ [])
unfolding visits visit_segment along_edge move_segment move_points moved_by walk behind contour_of
e-snap = refl

e-exchanged : shared true (from 1 2 (Some 1) ∷ from 0 1 (Some 0) ∷ []) ≡ points (pos 5 ∷ pos 5 ∷ pos 9 ∷ []) (1 ∷ 1 ∷ 1 ∷ [])
unfolding visits visit_segment along_edge move_segment move_points moved_by walk behind contour_of
e-exchanged = refl

e-moved : shared false (from 0 1 (Some 0) ∷ from 1 2 (Some 1) ∷ []) ≡ points (pos 5 ∷ pos 14 ∷ pos 9 ∷ []) (1 ∷ 1 ∷ 1 ∷ [])
unfolding visits visit_segment along_edge move_segment move_points moved_by walk behind contour_of
e-moved = refl

-- an edge that is not done moves points where any does
abbrev one-done : Bool → Points
one-done alone =
    move_all true alone (axis (done 0 (pos 5) ∷ left 0 (pos 9) ∷ [])) (table (from 0 1 (Some 0) ∷ from 1 2 (Some 1) ∷ [])) (2 ∷ [])
    (points (pos 0 ∷ pos 0 ∷ pos 0 ∷ []) (0 ∷ 0 ∷ 0 ∷ []))

f-alone : one-done true ≡ points (pos 5 ∷ pos 5 ∷ pos 0 ∷ []) (1 ∷ 1 ∷ 0 ∷ [])
unfolding visits visit_segment along_edge move_segment move_points moved_by walk behind contour_of
f-alone = refl

f-all : one-done false ≡ points (pos 5 ∷ pos 9 ∷ pos 9 ∷ []) (1 ∷ 1 ∷ 1 ∷ [])
unfolding visits visit_segment along_edge move_segment move_points moved_by walk behind contour_of
f-all = refl

-- ---- what is refused
abbrev answer : Bool → List Edge → List Segment → List ℤ → List ℕ → ℕ
answer alone es ss c ends = refusal (points_tests alone (axis es) (table ss) (points c (0 ∷ 0 ∷ [])) ends)

abbrev two : List ℤ
two = pos 0 ∷ pos 0 ∷ []

-- first and last on two contours; the same without an edge
g : answer true (done 0 (pos 0) ∷ []) (from 0 1 (Some 0) ∷ []) two (0 ∷ 1 ∷ []) ≡ 3
unfolding refusal link_holds every edge_indices edges_indices segment_indices segment_next segments_indices segments_nexts segment_edge edge_segments segments_edges
    edges_segments ends_hold contour_of is_on on_one segment_points segments_points
g = refl

g-edgeless : answer true (done 0 (pos 0) ∷ []) (from 0 1 None ∷ []) two (0 ∷ 1 ∷ []) ≡ 0
unfolding refusal link_holds blue_holds every edge_indices edge_numbers edges_indices edges_numbers segment_indices segment_next segment_numbers segments_indices
    segments_nexts segments_numbers segment_edge edge_segments segments_edges edges_segments ends_hold contour_of is_on on_one segment_points segments_points
    coordinate_holds coordinates_hold mover_holds movers_hold
g-edgeless = refl

-- a point behind the last contour is on none, with the segment's edge not done too
g-none : answer true (left 0 (pos 0) ∷ []) (from 1 1 (Some 0) ∷ []) two (0 ∷ []) ≡ 3
unfolding refusal link_holds every edge_indices edges_indices segment_indices segment_next segments_indices segments_nexts segment_edge edge_segments segments_edges
    edges_segments ends_hold contour_of is_on on_one segment_points segments_points
g-none = refl

-- a position that is no coordinate, of an edge that moves points and of one that does not
h : answer true (done 0 (pos 65536) ∷ []) (from 0 1 (Some 0) ∷ []) two (1 ∷ []) ≡ 4
unfolding refusal link_holds blue_holds every edge_indices edge_numbers edges_indices edges_numbers segment_indices segment_next segment_numbers segments_indices
    segments_nexts segments_numbers segment_edge edge_segments segments_edges edges_segments ends_hold contour_of is_on on_one segment_points segments_points
    coordinate_holds coordinates_hold mover_holds movers_hold
h = refl

h-left : answer true (left 0 (pos 65536) ∷ []) (from 0 1 (Some 0) ∷ []) two (1 ∷ []) ≡ 0
unfolding refusal link_holds blue_holds every edge_indices edge_numbers edges_indices edges_numbers segment_indices segment_next segment_numbers segments_indices
    segments_nexts segments_numbers segment_edge edge_segments segments_edges edges_segments ends_hold contour_of is_on on_one segment_points segments_points
    coordinate_holds coordinates_hold mover_holds movers_hold
h-left = refl

h-all : answer false (left 0 (pos 65536) ∷ []) (from 0 1 (Some 0) ∷ []) two (1 ∷ []) ≡ 4
unfolding refusal link_holds blue_holds every edge_indices edge_numbers edges_indices edges_numbers segment_indices segment_next segment_numbers segments_indices
    segments_nexts segments_numbers segment_edge edge_segments segments_edges edges_segments ends_hold contour_of is_on on_one segment_points segments_points
    coordinate_holds coordinates_hold mover_holds movers_hold
h-all = refl
