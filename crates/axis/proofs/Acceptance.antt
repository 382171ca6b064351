-- From tests that hold to the facts that a call may use.
use Rattle.std.specs.Prelude.{None, Some}
use mathlib.Core.Path.{◌≡◌}
use mathlib.Core.Bool.{true}
use Prim.Native.Nat.{ℕ, ◌<◌, ◌≤◌, min}
use native.Mathlib.Omega.{arith}
use borrow.Author.Tests.{ltb-true, leb-true}
use lib.Dec.{leb}
use lib.IntN.{ℤ, pos, neg_ℤ}
use lib.Signed.{le_z}
use Rattle.signed.specs.Range.{Between}
use Rattle.signed.proofs.Signed.{signed, up_neg, dn-neg}
use Rattle.axis.specs.Link.{Link}
use Rattle.axis.specs.Link.{Blue}
use Rattle.axis.specs.declared.edge.Edge.{Edge}
use Rattle.axis.specs.declared.edge.Axis.{Axis}
use Rattle.axis.specs.declared.segment.Segment.{Segment}
use Rattle.axis.specs.declared.segment.Segments.{Segments}
use Rattle.axis.specs.Edge.{edge_at}
use Rattle.axis.specs.Segment.{segment_at}
use Rattle.axis.specs.Limits.{most_segments, most_edges, most_units, most_pos, most_score}
use Rattle.axis.specs.Refusals.{
  inside,
  within,
  link_holds,
  blue_holds,
  edge_indices,
  edge_numbers,
  edges_indices,
  edges_numbers,
  segment_indices,
  segment_next,
  segment_numbers,
  segments_indices,
  segments_nexts,
  segments_numbers,
}
use Rattle.axis.specs.Accepted.{Below, InZone, EdgeWithin, AxisWithin, SegmentWithin, SegmentsWithin}
use Rattle.refusals.proofs.Tests.{and_first, and_second}
use Rattle.axis.proofs.Tests.{every-at}

-- ---- one number, one index
pub within-between : (n : ℕ) (z : ℤ) → within n z ≡ true → Between n n z
within-between n z h =
    let a = and_first (le_z (neg_ℤ (pos n)) z) _ h in let b = and_second (le_z (neg_ℤ (pos n)) z) _ h in omega (arith, signed, up_neg (pos n), dn-neg (pos n))

pub inside-between : (n : ℕ) (z : ℤ) → inside (pos 0) (pos n) z ≡ true → Between 0 n z
inside-between n z h = let a = and_first (le_z (pos 0) z) _ h in let b = and_second (le_z (pos 0) z) _ h in omega (arith, signed)

pub link-below : (n : ℕ) (l : Link) → link_holds n l ≡ true → Below n l
unfolding link_holds
link-below n l h = record { at = λ (k : ℕ) (e : l ≡ Some k). at k (rw e at h) }
  where
    at : (k : ℕ) → link_holds n (Some k) ≡ true → k < n
    at k h = ltb-true k n h

pub below_none : (n : ℕ) → Below n None
below_none n = record { at = λ k e. absurd (let z : ◌≡◌ {A = ℕ} 0 1 = cc in omega arith) }

pub below-to : (n k : ℕ) → k < n → Below n (Some k)
below-to n k h = record { at = λ j e. let q : k ≡ j = cc in omega arith }

blue-in-zone : (b : Blue) → blue_holds b ≡ true → InZone b
unfolding blue_holds
blue-in-zone b h = record { at = λ (z : ℤ) (e : b ≡ Some z). at z (rw e at h) }
  where
    at : (z : ℤ) → blue_holds (Some z) ≡ true → Between most_units most_units z
    at z h = within-between most_units z h

-- ---- edges
edge-within : (n : ℕ) (e : Edge) → edge_indices n e ≡ true → edge_numbers e ≡ true → EdgeWithin most_pos n e
unfolding edge_indices edge_numbers
edge-within n e h g =
    let r = and_second (within most_units e.opos) _ g in
    record {
      opos = within-between most_units e.opos (and_first _ _ g);
      pos = within-between most_pos e.pos (and_first _ _ r);
      blue = blue-in-zone e.blue (and_second (within most_pos e.pos) _ r);
      link = link-below n e.link (and_first _ _ h);
      serif = link-below n e.serif (and_second (link_holds n e.link) _ h);
    }

below-min : (i n most : ℕ) → n ≤ most → i < n → i < min n most
below-min i n most h g = let m : min n most ≡ n = omega arith in rw m g

-- what a call may use of edges whose tests hold
pub axis-within : (axis : Axis) → leb axis.len most_edges ≡ true → edges_indices axis ≡ true → edges_numbers axis ≡ true → AxisWithin most_pos axis
unfolding edges_indices edges_numbers
axis-within axis a h g =
    let few = leb-true axis.len most_edges a in
    record {
      few = few;
      edge = λ (i : ℕ) (q : i < axis.len).
          let b = below-min i axis.len most_edges few q in
          edge-within axis.len (edge_at axis i) (every-at _ i (min axis.len most_edges) h b) (every-at _ i (min axis.len most_edges) g b);
    }

-- ---- segments
segment-within : (n : ℕ) (s : Segment) → segment_indices n s ≡ true → segment_numbers s ≡ true → SegmentWithin n s
unfolding segment_indices segment_numbers
segment-within n s h g = record {
  score = inside-between most_score s.score (and_first _ _ g);
  len = inside-between most_score s.len (and_second (inside (pos 0) (pos most_score) s.score) _ g);
  link = link-below n s.link (and_first _ _ h);
  serif = link-below n s.serif (and_second (link_holds n s.link) _ h);
}

-- what a call may use of segments whose tests hold
pub segments-within : (t : Segments) → leb t.len most_segments ≡ true → segments_indices t ≡ true → segments_numbers t ≡ true → SegmentsWithin t
unfolding segments_indices segments_numbers
segments-within t a h g =
    let few = leb-true t.len most_segments a in
    record {
      few = few;
      segment = λ (i : ℕ) (q : i < t.len).
          let b = below-min i t.len most_segments few q in
          segment-within t.len (segment_at t i) (every-at _ i (min t.len most_segments) h b) (every-at _ i (min t.len most_segments) g b);
    }

-- the next of each segment, tested, is a segment
pub nexts-below : (t : Segments) (i : ℕ) → t.len ≤ most_segments → segments_nexts t ≡ true → i < t.len → Below t.len (segment_at t i).next
unfolding segments_nexts segment_next
nexts-below t i few h q = link-below t.len (segment_at t i).next (every-at _ i (min t.len most_segments) h (below-min i t.len most_segments few q))
