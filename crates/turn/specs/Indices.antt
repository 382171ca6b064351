-- The indices that lead from segments to edges and back: a call that is given both lists tests them, too.
use Rattle.std.specs.Prelude.{Bool, List, [], ◌∷◌, ℕ}
use Rattle.refusals.specs.Refusal.{Test, ◌unless◌, bad_index}
use Rattle.axis.specs.declared.edge.Axis.{Axis}
use Rattle.axis.specs.declared.segment.Segments.{Segments}
use Rattle.axis.specs.Refusals.{every_edge, every_segment, edge_segments, segment_edge, segments_nexts, edges_short, edges_indexed, segments_short, segments_indexed}

-- the edge of every segment is an edge, and first and last of every edge are segments
unfoldable pub segments_edges : ℕ → Segments → Bool
segments_edges m t = every_segment (segment_edge m) t

unfoldable pub edges_segments : ℕ → Axis → Bool
edges_segments n axis = every_edge (edge_segments n) axis

-- the tests of lengths and of every index, in document 01's order: link, serif, next and edge of segments, link, serif, first and last of edges
abbrev pub index_tests : Axis → Segments → List Test
index_tests axis t =
    segments_short t
    ∷ edges_short axis
    ∷ segments_indexed t
    ∷ bad_index unless segments_nexts t
    ∷ bad_index unless segments_edges axis.len t
    ∷ edges_indexed axis
    ∷ bad_index unless edges_segments t.len axis
    ∷ []
