-- Axes packed by hand.
use Rattle.std.specs.Prelude.{None, Some}
use mathlib.Core.Path.{◌≡◌, refl}
use mathlib.Core.Bool.{true, false}
use mathlib.Core.List.{List, [], ◌∷◌, map}
use Prim.Native.Nat.{ℕ}
use lib.IntN.{pos}
use lib.ListN.{length}
use Rattle.refusals.specs.Refusal.{refusal}
use Rattle.axis.specs.declared.edge.Edge.{Edge}
use Rattle.axis.specs.declared.edge.Axis.{Axis}
use Rattle.axis.specs.declared.kinds.Dimension.TheVariants as Dimensions
use Rattle.axis.specs.declared.kinds.Direction.TheVariants as Directions
use Rattle.axis.specs.Link.{Link}
use Rattle.axis.specs.declared.segment.Segment.{Segment}
use Rattle.axis.specs.declared.segment.Segments.{Segments}
use Rattle.axis.specs.Edge.{fresh_edge, with_last}
use Rattle.axis.specs.Link.{links_to}
use Rattle.axis.specs.Refusals.{
  link_holds,
  every,
  edge_indices,
  edges_indices,
  edge_segments,
  segment_indices,
  segment_next,
  segment_edge,
  segments_indices,
  segments_nexts,
}
use Rattle.axis.specs.Ring.{walk, ends, times, sound_ring}
use Rattle.axis.specs.Segment.{empty_segment}
use Rattle.turn.specs.Indices.{segments_edges, edges_segments}
use Rattle.mend.specs.Following.{total}
use Rattle.pack.specs.Sets.{chosen}
use Rattle.pack.specs.Rounds.{some, rounds}
use Rattle.pack.specs.Kept.{leads, has_edge, kept}
use Rattle.pack.specs.Packed.{packed_segments, packed_axis}
use Rattle.pack.specs.Call.{rings_sound, packing_tests}

-- a segment at a place with a link, a serif, an edge and a next
abbrev segment : ℕ → Link → Link → Link → Link → Segment
segment p link serif edge next = record {
  flags = empty_segment.flags;
  dir = Directions.Up;
  pos = pos p;
  delta = pos 0;
  min_coord = pos 0;
  max_coord = pos 0;
  height = pos 0;
  score = pos 70000;
  len = pos 0;
  link = link;
  serif = serif;
  first = 0;
  last = 0;
  edge = edge;
  next = next;
}

abbrev table : List Segment → Segments
table ss = record { segments = ss; len = length ss }

abbrev axis : List Edge → Axis
axis es = record { dim = Dimensions.Vertical; major_dir = Directions.Up; edges = es; len = length es }

-- an edge from a segment to a segment
abbrev edge : ℕ → ℕ → Edge
edge first last = with_last (fresh_edge (pos 0) (pos 0) Directions.Up first) last

-- 1 has the edge, its link is 3, whose serif is 2, in front of it; 0 names a kept one and is named by none
abbrev four : Segments
four =
    table (segment 10 (Some 1) None None None ∷ segment 11 (Some 3) None (Some 0) (Some 1) ∷ segment 12 None None None (Some 1) ∷ segment 13 None (Some 2) None None ∷ [])

kept-four : map (kept four) (0 ∷ 1 ∷ 2 ∷ 3 ∷ []) ≡ false ∷ true ∷ true ∷ true ∷ []
unfolding kept rounds some leads has_edge links_to
kept-four = refl

-- they move down by one, are renumbered, and the one without an edge loses its next; one place is freed
packed-four :
    packed_segments four
    ≡ record {
      segments =
          segment 11 (Some 2) None (Some 0) (Some 0) ∷ segment 12 None None None None ∷ segment 13 None (Some 1) None None ∷ empty_segment ∷ [];
      len = 3;
    }
unfolding packed_segments chosen total kept rounds some leads has_edge links_to
packed-four = refl

-- the edge's first and last go with it
packed-edge : (packed_axis four (axis (edge 1 1 ∷ []))).edges ≡ edge 0 0 ∷ []
unfolding packed_axis total kept rounds some leads has_edge links_to
packed-edge = refl

-- ---- the answer
abbrev answer : List Edge → List Segment → ℕ
answer es ss = refusal (packing_tests (axis es) (table ss))

-- a score beyond its limit is carried
taken : answer (edge 1 1 ∷ []) four.segments ≡ 0
unfolding refusal link_holds every edge_indices edges_indices segment_indices segment_next segments_indices segments_nexts segment_edge edge_segments segments_edges
    edges_segments rings_sound sound_ring ends walk times links_to
taken = refl

-- an edge without segments meets a stranger; a ring that leaves one out; one that has no next in front of its last; one that does not lead back
stranger : answer (edge 0 0 ∷ []) (segment 1 None None None (Some 0) ∷ []) ≡ 7
unfolding refusal link_holds every edge_indices edges_indices segment_indices segment_next segments_indices segments_nexts segment_edge edge_segments segments_edges
    edges_segments rings_sound sound_ring ends walk times links_to
stranger = refl

left_out : answer (edge 0 0 ∷ []) (segment 1 None None (Some 0) (Some 0) ∷ segment 2 None None (Some 0) (Some 1) ∷ []) ≡ 7
unfolding refusal link_holds every edge_indices edges_indices segment_indices segment_next segments_indices segments_nexts segment_edge edge_segments segments_edges
    edges_segments rings_sound sound_ring ends walk times links_to
left_out = refl

no-next : answer (edge 0 1 ∷ []) (segment 1 None None (Some 0) None ∷ segment 2 None None (Some 0) (Some 0) ∷ []) ≡ 7
unfolding refusal link_holds every edge_indices edges_indices segment_indices segment_next segments_indices segments_nexts segment_edge edge_segments segments_edges
    edges_segments rings_sound sound_ring ends walk times links_to
no-next = refl

open-ring : answer (edge 0 1 ∷ []) (segment 1 None None (Some 0) (Some 1) ∷ segment 2 None None (Some 0) (Some 1) ∷ []) ≡ 7
unfolding refusal link_holds every edge_indices edges_indices segment_indices segment_next segments_indices segments_nexts segment_edge edge_segments segments_edges
    edges_segments rings_sound sound_ring ends walk times links_to
open-ring = refl

-- an edge on an axis without segments, and a dropped segment's link beyond: 3, and in front of 7
no-segments : answer (edge 0 0 ∷ []) [] ≡ 3
unfolding refusal link_holds every edge_indices edges_indices segment_indices segment_next segments_indices segments_nexts segment_edge edge_segments segments_edges
    edges_segments
no-segments = refl

dropped-beyond : answer (edge 0 0 ∷ []) (segment 1 (Some 1) None None (Some 0) ∷ []) ≡ 3
unfolding refusal link_holds every segment_indices segments_indices
dropped-beyond = refl
