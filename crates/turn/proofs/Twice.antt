-- What is turned over is accepted again, and turned over again it is what it was.
use Rattle.std.specs.Prelude.{None, Some}
use mathlib.Core.Path.{◌≡◌, refl, ap, ◌∙◌}
use mathlib.Core.Bool.{true}
use mathlib.Core.Logic.{⊎_elim}
use Prim.Native.Nat.{ℕ, ◌≤◌, ◌<◌, min}
use native.Mathlib.Omega.{arith}
use borrow.Author.Tests.{leb-true, lt-ltb}
use lib.ListN.{length}
use lib.Seq.{ext_get_or}
use Rattle.signed.proofs.Signed.{lt-or-le}
use Rattle.axis.specs.declared.edge.Axis.{Axis}
use Rattle.axis.specs.Link.{Link}
use Rattle.axis.specs.declared.segment.Segments.{Segments}
use Rattle.axis.specs.Accepted.{Below, AxisWithin, SegmentsWithin}
use Rattle.axis.specs.Edge.{empty_edge, edge_at}
use Rattle.axis.specs.Handed.{TypedAxis, Typed}
use Rattle.axis.specs.Limits.{most_edges, most_segments, most_pos}
use Rattle.axis.specs.Refusals.{link_holds, segment_edge, edge_segments}
use Rattle.axis.specs.Segment.{empty_segment, segment_at}
use Rattle.axis.proofs.Acceptance.{link-below, nexts-below}
use Rattle.axis.proofs.Accepting.{every_holds, edges-accepted, edges-within, segments-accepted, segments-are-within, nexts-hold}
use Rattle.axis.proofs.Tests.{every-at}
use Rattle.turn.specs.Indices.{segments_edges, edges_segments}
use Rattle.turn.specs.Turning.{turned_index, turned_link, turned_edge, turned_segment, turned_axis, turned_segments}
use Rattle.turn.proofs.Calls.{Taken}
use Rattle.turn.proofs.Places.{turned-edge-at, behind-edges, turned-edges-length, turned-segment-at, behind-segments, turned-segments-length}

-- ---- one index
pub index-twice : (m k : ℕ) → k < m → turned_index m (turned_index m k) ≡ k
index-twice m k h = omega arith

pub link-twice : (m : ℕ) (l : Link) → Below m l → turned_link m (turned_link m l) ≡ l
link-twice m None b = refl
link-twice m (Some k) b = ap Some (index-twice m k (b.at k refl))

link-turned : (m : ℕ) (l : Link) → Below m l → link_holds m (turned_link m l) ≡ true
unfolding link_holds
link-turned m None b = refl
link-turned m (Some k) b = lt-ltb (turned_index m k) m (let h = b.at k refl in omega arith)

pub turned-below : (m : ℕ) (l : Link) → Below m l → Below m (turned_link m l)
turned-below m l b = link-below m (turned_link m l) (link-turned m l b)

module _ (axis : Axis) (t : Segments) (w : TypedAxis axis) (v : Typed t) (a : Taken axis t) where
  abbrev m : ℕ
  m = axis.len

  few-edges : m ≤ most_edges
  few-edges = leb-true m most_edges a.edges.short

  few-segments : t.len ≤ most_segments
  few-segments = leb-true t.len most_segments a.segments.short

  pub edges_whole : m ≤ length axis.edges
  edges_whole = omega (arith, w.places, few-edges)

  pub segments_whole : t.len ≤ length t.segments
  segments_whole = omega (arith, v.places, few-segments)

  -- the edge of a segment is one of the edges
  pub edge-below : (i : ℕ) → i < t.len → Below m (segment_at t i).edge
  unfolding segments_edges segment_edge
  edge-below i h = link-below m (segment_at t i).edge (every-at _ i (min t.len most_segments) a.to_edges (omega (arith, few-segments)))

  -- ---- accepted again
  edges-accepted-again : AxisWithin most_pos (turned_axis axis)
  unfolding turned_axis
  edges-accepted-again =
      let old = edges-within axis a.edges in
      record {
        few = few-edges;
        edge = λ (i : ℕ) (h : i < m).
            let e = old.edge (turned_index m i) (omega arith) in
            rw (turned-edge-at axis edges_whole i h) (record {
              opos = e.opos;
              pos = e.pos;
              blue = e.blue;
              link = turned-below m (edge_at axis (turned_index m i)).link e.link;
              serif = turned-below m (edge_at axis (turned_index m i)).serif e.serif;
            });
      }

  segments-accepted-again : SegmentsWithin (turned_segments m t)
  unfolding turned_segments
  segments-accepted-again =
      let old = segments-are-within t a.segments in
      record {
        few = few-segments;
        segment = λ (i : ℕ) (h : i < t.len).
            let s = old.segment i h in
            rw (turned-segment-at m t segments_whole i h) (record { score = s.score; len = s.len; link = s.link; serif = s.serif });
      }

  nexts-again : (i : ℕ) → i < t.len → Below t.len (segment_at (turned_segments m t) i).next
  nexts-again i h = rw (turned-segment-at m t segments_whole i h) (nexts-below t i few-segments a.nexts h)

  to-edges-again : (i : ℕ) → i < t.len → segment_edge m (segment_at (turned_segments m t) i) ≡ true
  unfolding segment_edge
  to-edges-again i h = rw (turned-segment-at m t segments_whole i h) (link-turned m (segment_at t i).edge (edge-below i h))

  to-segments-again : (i : ℕ) → i < m → edge_segments t.len (edge_at (turned_axis axis) i) ≡ true
  unfolding edges_segments edge_segments
  to-segments-again i h = rw (turned-edge-at axis edges_whole i h) (every-at _ (turned_index m i) (min m most_edges) a.to_segments (omega (arith, few-edges)))

  pub taken-again : Taken (turned_axis axis) (turned_segments m t)
  unfolding turned_axis turned_segments segments_edges edges_segments
  taken-again = record {
    edges = edges-accepted (turned_axis axis) edges-accepted-again;
    segments = segments-accepted (turned_segments m t) segments-accepted-again;
    nexts = nexts-hold (turned_segments m t) nexts-again;
    to_edges = every_holds _ (min t.len most_segments) (λ i h. to-edges-again i (omega arith));
    to_segments = every_holds _ (min m most_edges) (λ i h. to-segments-again i (omega arith));
  }

  -- ---- what it was
  edge-twice : (i : ℕ) → i < m → turned_edge m (turned_edge m (edge_at axis i)) ≡ edge_at axis i
  edge-twice i h =
      let e = edge_at axis i in
      let w = (edges-within axis a.edges).edge i h in
      λ j. record {
        fpos = e.fpos;
        opos = e.opos;
        pos = e.pos;
        flags = e.flags;
        dir = e.dir;
        blue = e.blue;
        link = link-twice m e.link w.link j;
        serif = link-twice m e.serif w.serif j;
        first = e.first;
        last = e.last;
        mark = e.mark;
      }

  segment-twice : (i : ℕ) → i < t.len → turned_segment m (turned_segment m (segment_at t i)) ≡ segment_at t i
  segment-twice i h =
      let s = segment_at t i in
      λ j. record {
        flags = s.flags;
        dir = s.dir;
        pos = s.pos;
        delta = s.delta;
        min_coord = s.min_coord;
        max_coord = s.max_coord;
        height = s.height;
        score = s.score;
        len = s.len;
        link = s.link;
        serif = s.serif;
        first = s.first;
        last = s.last;
        edge = link-twice m s.edge (edge-below i h) j;
        next = s.next;
      }

  again-whole : m ≤ length (turned_axis axis).edges
  again-whole = omega (arith, turned-edges-length axis edges_whole, edges_whole)

  segments-again-whole : t.len ≤ length (turned_segments m t).segments
  segments-again-whole = omega (arith, turned-segments-length m t segments_whole, segments_whole)

  edge-back : (i : ℕ) → edge_at (turned_axis (turned_axis axis)) i ≡ edge_at axis i
  unfolding turned_axis
  edge-back i =
      ⊎_elim
      (λ (h : i < m).
      turned-edge-at (turned_axis axis) again-whole i h
      ∙ ap (turned_edge m) (turned-edge-at axis edges_whole (turned_index m i) (omega arith))
      ∙ ap (λ (k : ℕ). turned_edge m (turned_edge m (edge_at axis k))) (index-twice m i h)
      ∙ edge-twice i h)
      (λ (h : m ≤ i). behind-edges (turned_axis axis) again-whole i h ∙ behind-edges axis edges_whole i h)
      (lt-or-le i m)

  segment-back : (i : ℕ) → segment_at (turned_segments m (turned_segments m t)) i ≡ segment_at t i
  unfolding turned_segments
  segment-back i =
      ⊎_elim
      (λ (h : i < t.len).
      turned-segment-at m (turned_segments m t) segments-again-whole i h ∙ ap (turned_segment m) (turned-segment-at m t segments_whole i h) ∙ segment-twice i h)
      (λ (h : t.len ≤ i). behind-segments m (turned_segments m t) segments-again-whole i h ∙ behind-segments m t segments_whole i h)
      (lt-or-le i t.len)

  again-length : length (turned_axis (turned_axis axis)).edges ≡ length axis.edges
  unfolding turned_axis
  again-length = turned-edges-length (turned_axis axis) again-whole ∙ turned-edges-length axis edges_whole

  segments-again-length : length (turned_segments m (turned_segments m t)).segments ≡ length t.segments
  unfolding turned_segments
  segments-again-length = turned-segments-length m (turned_segments m t) segments-again-whole ∙ turned-segments-length m t segments_whole

  edges-back : (turned_axis (turned_axis axis)).edges ≡ axis.edges
  edges-back = ext_get_or empty_edge (turned_axis (turned_axis axis)).edges axis.edges again-length (λ i h. edge-back i)

  segments-back : (turned_segments m (turned_segments m t)).segments ≡ t.segments
  segments-back = ext_get_or empty_segment (turned_segments m (turned_segments m t)).segments t.segments segments-again-length (λ i h. segment-back i)

  pub axis-twice : turned_axis (turned_axis axis) ≡ axis
  unfolding turned_axis
  axis-twice = λ j. record { dim = axis.dim; major_dir = axis.major_dir; edges = edges-back j; len = m }

  pub segments-twice : turned_segments m (turned_segments m t) ≡ t
  unfolding turned_segments
  segments-twice = λ j. record { segments = segments-back j; len = t.len }
