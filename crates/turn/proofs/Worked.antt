-- Tables turned over by hand.
use Rattle.std.specs.Prelude.{None, Some}
use mathlib.Core.Path.{◌≡◌, refl}
use mathlib.Core.List.{List, [], ◌∷◌}
use Prim.Native.Nat.{ℕ}
use lib.IntN.{pos}
use lib.ListN.{length}
use Rattle.refusals.specs.Refusal.{refusal}
use Rattle.axis.specs.declared.edge.Edge.{Edge}
use Rattle.axis.specs.declared.kinds.Dimension.TheVariants as Dimensions
use Rattle.axis.specs.declared.kinds.Direction.TheVariants as Directions
use Rattle.axis.specs.Link.{Link}
use Rattle.axis.specs.declared.kinds.Mark.{Mark}
use Rattle.axis.specs.declared.kinds.Mark.TheVariants.{Blue, Stem}
use Rattle.axis.specs.declared.segment.Segment.{Segment}
use Rattle.axis.specs.Edge.{fresh_edge, placed, joined_to}
use Rattle.axis.specs.Refusals.{link_holds, blue_holds, every, edge_indices, edge_numbers, edges_indices, edges_numbers, segment_edge, edge_segments}
use Rattle.axis.specs.Refusals.{segment_indices, segment_next, segment_numbers, segments_indices, segments_nexts, segments_numbers}
use Rattle.axis.specs.Segment.{empty_segment}
use Rattle.turn.specs.Indices.{segments_edges, edges_segments}
use Rattle.turn.specs.Turning.{turned_edges, turned_segment, turning_tests}

-- an edge at a font position with its only segment, a link and a serif
abbrev edge : ℕ → ℕ → Link → Link → Edge
edge p i link serif = joined_to (fresh_edge (pos p) (pos p) Directions.Up i) link serif

-- an edge with a mark
abbrev by : Mark → Edge → Edge
by m e = placed e e.pos m

-- a segment of an edge, alone in its ring
abbrev segment : Link → ℕ → Segment
segment k i = record {
  flags = empty_segment.flags;
  dir = Directions.Up;
  pos = pos 0;
  delta = pos 0;
  min_coord = pos 0;
  max_coord = pos 0;
  height = pos 0;
  score = pos 0;
  len = pos 0;
  link = None;
  serif = None;
  first = 0;
  last = 0;
  edge = k;
  next = Some i;
}

-- three edges change places, their links and serifs with them; the place behind them stays
three :
    turned_edges 3 (edge 1 0 (Some 1) None ∷ edge 2 1 (Some 0) None ∷ edge 3 2 None (Some 0) ∷ edge 9 0 (Some 0) None ∷ [])
    ≡ edge 3 2 None (Some 2) ∷ edge 2 1 (Some 2) None ∷ edge 1 0 (Some 1) None ∷ edge 9 0 (Some 0) None ∷ []
three = refl

-- marks go with their edges
marked : turned_edges 2 (by Stem (edge 1 0 (Some 1) None) ∷ by Blue (edge 2 1 (Some 0) None) ∷ [])
    ≡ by Blue (edge 2 1 (Some 1) None) ∷ by Stem (edge 1 0 (Some 0) None) ∷ []
marked = refl

-- no edge, nothing to change; one edge stays where it is
none : turned_edges 0 (edge 9 0 (Some 0) None ∷ []) ≡ edge 9 0 (Some 0) None ∷ []
none = refl

one : turned_edges 1 (edge 1 0 (Some 0) None ∷ []) ≡ edge 1 0 (Some 0) None ∷ []
one = refl

-- a segment's edge is renumbered, its next is not
renumbered : turned_segment 3 (segment (Some 0) 1) ≡ segment (Some 2) 1
renumbered = refl

edgeless : turned_segment 3 (segment None 1) ≡ segment None 1
edgeless = refl

-- ---- the refusal of two edges and two segments
abbrev answer : List Edge → List Segment → ℕ
answer es ss =
    refusal (turning_tests (record { dim = Dimensions.Vertical; major_dir = Directions.Up; edges = es; len = length es })
    (record { segments = ss; len = length ss }))

abbrev two : List Edge
two = edge 1 0 (Some 1) None ∷ edge 2 1 (Some 0) None ∷ []

abbrev both : List Segment
both = segment (Some 0) 0 ∷ segment (Some 1) 1 ∷ []

taken : answer two both ≡ 0
unfolding refusal link_holds blue_holds every edge_indices edge_numbers edges_indices edges_numbers segment_indices segment_next segment_numbers segments_indices
    segments_nexts segments_numbers segment_edge edge_segments segments_edges edges_segments
taken = refl

-- an edge index that is not below the edge count, and a next, a first and a last that are not below the segment count
edge-beyond : answer two (segment (Some 2) 0 ∷ segment (Some 1) 1 ∷ []) ≡ 3
unfolding refusal link_holds every segment_indices segment_next segments_indices segments_nexts segment_edge segments_edges
edge-beyond = refl

next-beyond : answer two (segment (Some 0) 0 ∷ segment (Some 1) 2 ∷ []) ≡ 3
unfolding refusal link_holds every segment_indices segment_next segments_indices segments_nexts
next-beyond = refl

first-beyond : answer (edge 1 0 None None ∷ edge 2 2 None None ∷ []) both ≡ 3
unfolding refusal link_holds every edge_indices edges_indices segment_indices segment_next segments_indices segments_nexts segment_edge edge_segments segments_edges
    edges_segments
first-beyond = refl

-- a position beyond its limit
far : answer (edge 65536 0 None None ∷ edge 2 1 None None ∷ []) both ≡ 4
unfolding refusal link_holds blue_holds every edge_indices edge_numbers edges_indices edges_numbers segment_indices segment_next segment_numbers segments_indices
    segments_nexts segments_numbers segment_edge edge_segments segments_edges edges_segments
far = refl
