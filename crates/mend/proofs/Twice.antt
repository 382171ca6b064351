-- What needs no mending is mended to itself; so is what was mended.
use Rattle.std.specs.Prelude.{None, Some}
use mathlib.Core.Path.{◌≡◌, refl, sym, ap, subst, ◌∙◌}
use mathlib.Core.Bool.{Bool, true, cond}
use mathlib.Core.Logic.{⊎_elim}
use Prim.Native.Nat.{ℕ, ◌≤◌, ◌<◌}
use native.Mathlib.Omega.{arith}
use lib.ListN.{length}
use lib.Seq.{ext_get_or}
use Rattle.signed.proofs.Signed.{lt-or-le}
use Rattle.axis.specs.declared.edge.Edge.{Edge}
use Rattle.axis.specs.declared.edge.Axis.{Axis}
use Rattle.axis.specs.Link.{Link}
use Rattle.axis.specs.declared.segment.Segment.{Segment}
use Rattle.axis.specs.declared.segment.Segments.{Segments}
use Rattle.axis.specs.Accepted.{Below}
use Rattle.axis.specs.Edge.{empty_edge, edge_at}
use Rattle.axis.specs.Link.{links_to}
use Rattle.axis.specs.Refusals.{link_holds}
use Rattle.axis.specs.Segment.{empty_segment, segment_at}
use borrow.Author.Tests.{eq-eqb}
use Rattle.mend.specs.Rebuilt.{lowest, highest, behind}
use Rattle.axis.proofs.Sound.{is-sound, last-inside, leads-inside}
use Rattle.axis.specs.Ring.{is_of, led_to, Sound, is_sound}
use Rattle.mend.specs.Mended.{kept, mended_next, segment_with, edge_with, mended_segment, mended_edge, mended_segments, mended_axis}
use Rattle.mend.proofs.Places.{mended-segment-at, segments-behind, mended-segments-length, mended-edge-at, edges-behind, mended-edges-length}
use Rattle.mend.proofs.Sound.{Mendable, kept-holds, kept_same, index_below, edge_same, mended-sound}

-- every index of an axis is below its list, and every ring is sound
pub record Good (axis : Axis) (t : Segments) : Type 0 where
  pub segments_whole : t.len ≤ length t.segments
  pub edges_whole : axis.len ≤ length axis.edges
  pub link : (i : ℕ) → i < t.len → link_holds t.len (segment_at t i).link ≡ true
  pub serif : (i : ℕ) → i < t.len → link_holds t.len (segment_at t i).serif ≡ true
  pub next : (i : ℕ) → i < t.len → link_holds t.len (segment_at t i).next ≡ true
  pub edge : (i : ℕ) → i < t.len → Below axis.len (segment_at t i).edge
  pub edge_link : (k : ℕ) → k < axis.len → link_holds axis.len (edge_at axis k).link ≡ true
  pub edge_serif : (k : ℕ) → k < axis.len → link_holds axis.len (edge_at axis k).serif ≡ true
  pub sound : (k : ℕ) → k < axis.len → Sound axis t k

-- ---- tables whose fields stay are the same tables
-- a record is the same where the fields that are mended are
pub segment-as : (axis : Axis) (t : Segments) (i : ℕ) (s : Segment) → kept t.len s.link ≡ s.link → kept t.len s.serif ≡ s.serif
    → mended_next axis t i s.edge s.next ≡ s.next
    → mended_segment axis t i s ≡ s
segment-as axis t i s p q r = λ j. segment_with s (p j) (q j) (r j)

pub edge-as : (axis : Axis) (t : Segments) (k : ℕ) (e : Edge) → (mended_edge axis t k e).link ≡ e.link → (mended_edge axis t k e).serif ≡ e.serif
    → (mended_edge axis t k e).first ≡ e.first
    → (mended_edge axis t k e).last ≡ e.last → mended_edge axis t k e ≡ e
edge-as axis t k e p q r s = λ j. edge_with e (p j) (q j) (r j) (s j)

module _ (axis : Axis) (t : Segments) where
  segments-list : t.len ≤ length t.segments → ((i : ℕ) → i < t.len → mended_segment axis t i (segment_at t i) ≡ segment_at t i)
      → (mended_segments axis t).segments ≡ t.segments
  segments-list whole same =
      ext_get_or empty_segment (mended_segments axis t).segments t.segments (mended-segments-length axis t whole)
      (λ i l.
      ⊎_elim
      (λ (h : i < t.len). mended-segment-at axis t whole i h ∙ same i h)
      (λ (h : t.len ≤ i). segments-behind axis t whole i h)
      (lt-or-le i t.len))

  edges-list : axis.len ≤ length axis.edges → ((k : ℕ) → k < axis.len → mended_edge axis t k (edge_at axis k) ≡ edge_at axis k)
      → (mended_axis axis t).edges ≡ axis.edges
  edges-list whole same =
      ext_get_or empty_edge (mended_axis axis t).edges axis.edges (mended-edges-length axis t whole)
      (λ k l.
      ⊎_elim
      (λ (h : k < axis.len). mended-edge-at axis t whole k h ∙ same k h)
      (λ (h : axis.len ≤ k). edges-behind axis t whole k h)
      (lt-or-le k axis.len))

  pub segments-stay : t.len ≤ length t.segments → ((i : ℕ) → i < t.len → mended_segment axis t i (segment_at t i) ≡ segment_at t i)
      → mended_segments axis t ≡ t
  unfolding mended_segments
  segments-stay whole same = λ j. record { segments = segments-list whole same j; len = t.len }

  pub axis-stays : axis.len ≤ length axis.edges → ((k : ℕ) → k < axis.len → mended_edge axis t k (edge_at axis k) ≡ edge_at axis k) → mended_axis axis t ≡ axis
  unfolding mended_axis
  axis-stays whole same = λ j. record { dim = axis.dim; major_dir = axis.major_dir; edges = edges-list whole same j; len = axis.len }

-- ---- nothing to mend
module _ (axis : Axis) (t : Segments) (g : Good axis t) where
  sound-test : (k : ℕ) → k < axis.len → is_sound axis t k ≡ true
  sound-test k h = is-sound (is_of t k) (led_to t) t.len (edge_at axis k).first (edge_at axis k).last (g.sound k h)

  next-same : (i : ℕ) (l next : Link) → Below axis.len l → link_holds t.len next ≡ true → mended_next axis t i l next ≡ next
  unfolding mended_next
  next-same i None next b h = kept_same t.len next h
  next-same i (Some k) next b h = ap (λ (x : Bool). cond x next (Some (behind (is_of t k) t.len i))) (sound-test k (b.at k refl))

  segment-same : (i : ℕ) → i < t.len → mended_segment axis t i (segment_at t i) ≡ segment_at t i
  segment-same i h =
      let s = segment_at t i in
      segment-as axis t i s (kept_same t.len s.link (g.link i h)) (kept_same t.len s.serif (g.serif i h))
      (next-same i s.edge s.next (g.edge i h) (g.next i h))

  edge-unaltered : (k : ℕ) → k < axis.len → mended_edge axis t k (edge_at axis k) ≡ edge_at axis k
  edge-unaltered k h =
      let e = edge_at axis k in
      edge-as axis t k e (kept_same axis.len e.link (g.edge_link k h)) (kept_same axis.len e.serif (g.edge_serif k h))
      (ap (λ (b : Bool). cond b e.first (lowest (is_of t k) t.len)) (sound-test k h))
      (ap (λ (b : Bool). cond b e.last (highest (is_of t k) t.len)) (sound-test k h))

  pub segments-good : mended_segments axis t ≡ t
  segments-good = segments-stay axis t g.segments_whole segment-same

  pub axis-good : mended_axis axis t ≡ axis
  axis-good = axis-stays axis t g.edges_whole edge-unaltered

-- ---- what was mended
module _ (axis : Axis) (t : Segments) (a : Mendable axis t) where
  abbrev axis' : Axis
  axis' = mended_axis axis t

  abbrev t' : Segments
  t' = mended_segments axis t

  -- the next of a mended segment is a segment: without an edge, and with one
  next-without : (i : ℕ) → i < t.len → (segment_at t i).edge ≡ None → (segment_at t' i).next ≡ kept t.len (segment_at t i).next
  unfolding mended_next
  next-without i h e =
      ap (λ (s : Segment). s.next) (mended-segment-at axis t a.segments_whole i h) ∙ ap (λ (l : Link). mended_next axis t i l (segment_at t i).next) e

  is-of : (i k : ℕ) → (segment_at t i).edge ≡ Some k → is_of t' k i ≡ true
  unfolding links_to
  is-of i k e = ap (λ (l : Link). links_to l k) (edge_same axis t a i ∙ e) ∙ eq-eqb k k refl

  next-led : (i k : ℕ) → i < t.len → k < axis.len → is_of t' k i ≡ true → link_holds t.len (segment_at t' i).next ≡ true
  unfolding mended_segments
  next-led i k h l o =
      index_below t.len (segment_at t' i).next
      (leads-inside (is_of t' k) (led_to t') t.len (edge_at axis' k).first (edge_at axis' k).last (mended-sound axis t a k l) i h o)

  next-holds : (i : ℕ) → i < t.len → link_holds t.len (segment_at t' i).next ≡ true
  next-holds i h = by (segment_at t i).edge refl (a.to_edges i h)
    where
      by : (l : Link) → (segment_at t i).edge ≡ l → Below axis.len l → link_holds t.len (segment_at t' i).next ≡ true
      by None e b = subst (λ (x : Link). link_holds t.len x ≡ true) (sym (next-without i h e)) (kept-holds t.len (segment_at t i).next)
      by (Some k) e b = next-led i k h (b.at k refl) (is-of i k e)

  pub mended-good : Good axis' t'
  unfolding mended_axis mended_segments
  mended-good = record {
    segments_whole = omega (arith, mended-segments-length axis t a.segments_whole, a.segments_whole);
    edges_whole = omega (arith, mended-edges-length axis t a.edges_whole, a.edges_whole);
    link =
        λ i h. ap (λ (s : Segment). link_holds t.len s.link) (mended-segment-at axis t a.segments_whole i h)
        ∙ kept-holds t.len (segment_at t i).link;
    serif =
        λ i h. ap (λ (s : Segment). link_holds t.len s.serif) (mended-segment-at axis t a.segments_whole i h)
        ∙ kept-holds t.len (segment_at t i).serif;
    next = next-holds;
    edge = λ i h. subst (Below axis.len) (sym (edge_same axis t a i)) (a.to_edges i h);
    edge_link =
        λ k h. ap (λ (e : Edge). link_holds axis.len e.link) (mended-edge-at axis t a.edges_whole k h) ∙ kept-holds axis.len (edge_at axis k).link;
    edge_serif =
        λ k h. ap (λ (e : Edge). link_holds axis.len e.serif) (mended-edge-at axis t a.edges_whole k h) ∙ kept-holds axis.len (edge_at axis k).serif;
    sound = mended-sound axis t a;
  }

  -- mended twice is mended once
  pub segments-twice : mended_segments axis' t' ≡ t'
  segments-twice = segments-good axis' t' mended-good

  pub axis-twice : mended_axis axis' t' ≡ axis'
  axis-twice = axis-good axis' t' mended-good
