-- What is handed on passes document 01's index test, every index of both lists: link, serif, next and edge of segments, link, serif, first and last of edges.
-- So `turn_over` takes it.
use mathlib.Core.Path.{◌≡◌}
use mathlib.Core.Bool.{Bool, true, ◌&&◌}
use Prim.Native.Nat.{ℕ, ◌<◌, min}
use native.Mathlib.Omega.{arith}
use borrow.Author.Tests.{lt-ltb}
use lib.Dec.{ltb}
use Rattle.axis.specs.declared.edge.Axis.{Axis}
use Rattle.axis.specs.declared.segment.Segments.{Segments}
use Rattle.axis.specs.Edge.{edge_at}
use Rattle.axis.specs.Limits.{most_edges, most_segments}
use Rattle.axis.specs.Refusals.{link_holds, edge_indices, edges_indices, segment_indices, segment_next, segments_indices, segments_nexts, segment_edge, edge_segments}
use Rattle.axis.specs.Segment.{segment_at}
use Rattle.axis.proofs.Accepting.{every_holds, link-holds}
use Rattle.axis.proofs.Sound.{last-inside}
use Rattle.turn.specs.Indices.{segments_edges, edges_segments}
use Rattle.axis.specs.Ring.{is_of, led_to}
use Rattle.mend.proofs.Following.{both}
use Rattle.mend.proofs.Twice.{Good}

module _ (axis : Axis) (t : Segments) (g : Good axis t) where
  pub segments-indexed : segments_indices t ≡ true
  unfolding segments_indices segment_indices
  segments-indexed =
      every_holds _ (min t.len most_segments)
      (λ (i : ℕ) (l : i < min t.len most_segments). both (link_holds t.len (segment_at t i).link) _ (g.link i (omega arith)) (g.serif i (omega arith)))

  pub nexts-indexed : segments_nexts t ≡ true
  unfolding segments_nexts segment_next
  nexts-indexed = every_holds _ (min t.len most_segments) (λ (i : ℕ) (l : i < min t.len most_segments). g.next i (omega arith))

  pub edges-of-segments : segments_edges axis.len t ≡ true
  unfolding segments_edges segment_edge
  edges-of-segments =
      every_holds _ (min t.len most_segments)
      (λ (i : ℕ) (l : i < min t.len most_segments). link-holds axis.len (segment_at t i).edge (g.edge i (omega arith)))

  pub edges-indexed : edges_indices axis ≡ true
  unfolding edges_indices edge_indices
  edges-indexed =
      every_holds _ (min axis.len most_edges)
      (λ (k : ℕ) (l : k < min axis.len most_edges). both (link_holds axis.len (edge_at axis k).link) _ (g.edge_link k (omega arith))
      (g.edge_serif k (omega arith)))

  pub segments-of-edges : edges_segments t.len axis ≡ true
  unfolding edges_segments edge_segments
  segments-of-edges =
      every_holds _ (min axis.len most_edges)
      (λ (k : ℕ) (l : k < min axis.len most_edges).
      let s = g.sound k (omega arith) in
      both (ltb (edge_at axis k).first t.len) _ (lt-ltb (edge_at axis k).first t.len s.starts)
      (lt-ltb (edge_at axis k).last t.len (last-inside (is_of t k) (led_to t) t.len (edge_at axis k).first (edge_at axis k).last s)))
