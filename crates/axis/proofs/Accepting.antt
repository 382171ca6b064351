-- From the facts of a table back to its tests: a table within document 01's limits is no reason for a refusal.
use Rattle.std.specs.Prelude.{None, Some}
use mathlib.Core.Path.{◌≡◌, refl}
use mathlib.Core.Bool.{Bool, true}
use Prim.Native.Nat.{ℕ, zero, suc, ◌<◌, min}
use native.Mathlib.Omega.{arith}
use borrow.Author.Tests.{lt-ltb, le-leb}
use lib.IntN.{ℤ, pos, neg_ℤ}
use Rattle.signed.specs.Range.{Between}
use Rattle.signed.proofs.Signed.{to-le-true, up_neg, dn-neg}
use Rattle.axis.specs.Link.{Blue}
use Rattle.axis.specs.Link.{Link}
use Rattle.axis.specs.declared.edge.Axis.{Axis}
use Rattle.axis.specs.declared.edge.Edge.{Edge}
use Rattle.axis.specs.declared.segment.Segment.{Segment}
use Rattle.axis.specs.declared.segment.Segments.{Segments}
use Rattle.axis.specs.Accepted.{Below, InZone, EdgeWithin, AxisWithin, SegmentWithin, SegmentsWithin}
use Rattle.axis.specs.Edge.{edge_at}
use Rattle.axis.specs.Handed.{EdgesAccepted, SegmentsAccepted}
use Rattle.axis.specs.Limits.{most_segments, most_edges, most_units, most_pos, most_score}
use Rattle.axis.specs.Refusals.{inside, within, link_holds, blue_holds, every, edge_indices, edge_numbers, edges_indices, edges_numbers}
use Rattle.axis.specs.Refusals.{segment_indices, segment_next, segment_numbers, segments_indices, segments_nexts, segments_numbers}
use Rattle.axis.specs.Segment.{segment_at}
use Rattle.axis.proofs.Acceptance.{axis-within, segments-within}

-- ---- one number, one index, every place
within-holds : (n : ℕ) (z : ℤ) → Between n n z → within n z ≡ true
within-holds n z h = rw (to-le-true (neg_ℤ (pos n)) z (omega (arith, up_neg (pos n), dn-neg (pos n))), to-le-true z (pos n) (omega arith))

inside-holds : (n : ℕ) (z : ℤ) → Between 0 n z → inside (pos 0) (pos n) z ≡ true
inside-holds n z h = rw (to-le-true (pos 0) z (omega arith), to-le-true z (pos n) (omega arith))

pub link-holds : (n : ℕ) (l : Link) → Below n l → link_holds n l ≡ true
unfolding link_holds
link-holds n None b = refl
link-holds n (Some k) b = lt-ltb k n (b.at k refl)

blue-holds : (b : Blue) → InZone b → blue_holds b ≡ true
unfolding blue_holds
blue-holds None h = refl
blue-holds (Some z) h = within-holds most_units z (h.at z refl)

pub every_holds : (p : ℕ → Bool) (n : ℕ) → ((i : ℕ) → i < n → p i ≡ true) → every p n ≡ true
unfolding every
every_holds p zero h = refl
every_holds p (suc n) h = rw (every_holds p n (λ i l. h i (omega arith))) (h n (omega arith))

-- ---- edges
edge-indices : (n : ℕ) (e : Edge) → EdgeWithin most_pos n e → edge_indices n e ≡ true
unfolding edge_indices
edge-indices n e w = rw (link-holds n e.link w.link) (link-holds n e.serif w.serif)

edge-numbers : (n : ℕ) (e : Edge) → EdgeWithin most_pos n e → edge_numbers e ≡ true
unfolding edge_numbers
edge-numbers n e w = rw (within-holds most_units e.opos w.opos, within-holds most_pos e.pos w.pos) (blue-holds e.blue w.blue)

-- edges within their limits are accepted
pub edges-accepted : (axis : Axis) → AxisWithin most_pos axis → EdgesAccepted axis
unfolding edges_indices edges_numbers
edges-accepted axis w = record {
  short = le-leb axis.len most_edges w.few;
  indexed = every_holds _ (min axis.len most_edges) (λ i l. edge-indices axis.len (edge_at axis i) (w.edge i (omega arith)));
  in_range = every_holds _ (min axis.len most_edges) (λ i l. edge-numbers axis.len (edge_at axis i) (w.edge i (omega arith)));
}

-- and accepted edges are within them
pub edges-within : (axis : Axis) → EdgesAccepted axis → AxisWithin most_pos axis
edges-within axis a = axis-within axis a.short a.indexed a.in_range

-- ---- segments
segment-indices : (n : ℕ) (s : Segment) → SegmentWithin n s → segment_indices n s ≡ true
unfolding segment_indices
segment-indices n s w = rw (link-holds n s.link w.link) (link-holds n s.serif w.serif)

segment-numbers : (n : ℕ) (s : Segment) → SegmentWithin n s → segment_numbers s ≡ true
unfolding segment_numbers
segment-numbers n s w = rw (inside-holds most_score s.score w.score) (inside-holds most_score s.len w.len)

-- segments within their limits are accepted
pub segments-accepted : (t : Segments) → SegmentsWithin t → SegmentsAccepted t
unfolding segments_indices segments_numbers
segments-accepted t w = record {
  short = le-leb t.len most_segments w.few;
  indexed = every_holds _ (min t.len most_segments) (λ i l. segment-indices t.len (segment_at t i) (w.segment i (omega arith)));
  in_range = every_holds _ (min t.len most_segments) (λ i l. segment-numbers t.len (segment_at t i) (w.segment i (omega arith)));
}

-- and accepted segments are within them
pub segments-are-within : (t : Segments) → SegmentsAccepted t → SegmentsWithin t
segments-are-within t a = segments-within t a.short a.indexed a.in_range

-- the next of each segment is one of them
pub nexts-hold : (t : Segments) → ((i : ℕ) → i < t.len → Below t.len (segment_at t i).next) → segments_nexts t ≡ true
unfolding segments_nexts segment_next
nexts-hold t h = every_holds _ (min t.len most_segments) (λ i l. link-holds t.len (segment_at t i).next (h i (omega arith)))
