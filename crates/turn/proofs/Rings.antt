-- A ring of a table that is turned over: the same segments in the same order, and sound where it was.
use Rattle.std.specs.Prelude.{Some}
use mathlib.Core.Path.{◌≡◌, refl, sym, ap, subst, ◌∙◌}
use mathlib.Core.Bool.{Bool, cond}
use mathlib.Core.Logic.{⊎_elim}
use Prim.Native.Nat.{ℕ, ◌≤◌, ◌<◌}
use native.Mathlib.Omega.{arith}
use Rattle.signed.proofs.Signed.{lt-or-le}
use Rattle.axis.specs.declared.edge.Edge.{Edge}
use Rattle.axis.specs.declared.edge.Axis.{Axis}
use Rattle.axis.specs.declared.segment.Segment.{Segment}
use Rattle.axis.specs.declared.segment.Segments.{Segments}
use Rattle.axis.specs.Edge.{edge_at}
use Rattle.axis.specs.Handed.{TypedAxis, Typed}
use Rattle.axis.specs.Limits.{most_segments}
use Rattle.axis.specs.Link.{index_or}
use Rattle.axis.specs.Ring.{walk, ends, times, members, visited, is_of, led_to, Sound}
use Rattle.axis.specs.Segment.{segment_at}
use Rattle.axis.proofs.Sound.{both_ways, links-to, of-link}
use Rattle.turn.specs.Turning.{turned_index, turned_link, turned_edge, turned_axis, turned_segments}
use Rattle.turn.proofs.Calls.{Taken}
use Rattle.turn.proofs.Places.{turned-edge-at, turned-segment-at, behind-segments}
use Rattle.turn.proofs.Twice.{index-twice, link-twice, edges_whole, segments_whole, edge-below}

module _ (axis : Axis) (t : Segments) (w : TypedAxis axis) (v : Typed t) (a : Taken axis t) where
  abbrev m : ℕ
  m = axis.len

  abbrev turned : Axis
  turned = turned_axis axis

  abbrev table : Segments
  table = turned_segments m t

  -- ---- the same segments in the same order
  next-same : (i : ℕ) → (segment_at table i).next ≡ (segment_at t i).next
  next-same i =
      ⊎_elim
      (λ (h : i < t.len). ap (λ (s : Segment). s.next) (turned-segment-at m t (segments_whole axis t w v a) i h))
      (λ (h : t.len ≤ i). ap (λ (s : Segment). s.next) (behind-segments m t (segments_whole axis t w v a) i h))
      (lt-or-le i t.len)

  edge_moved : (k : ℕ) → k < m → edge_at turned (turned_index m k) ≡ turned_edge m (edge_at axis k)
  edge_moved k h =
      turned-edge-at axis (edges_whole axis t w v a) (turned_index m k) (omega arith) ∙ ap (λ (i : ℕ). turned_edge m (edge_at axis i)) (index-twice m k h)

  first-same : (k : ℕ) → k < m → (edge_at turned (turned_index m k)).first ≡ (edge_at axis k).first
  first-same k h = ap (λ (e : Edge). e.first) (edge_moved k h)

  last-same : (k : ℕ) → k < m → (edge_at turned (turned_index m k)).last ≡ (edge_at axis k).last
  last-same k h = ap (λ (e : Edge). e.last) (edge_moved k h)

  pub members-same : (k : ℕ) → k < m → members turned table (turned_index m k) ≡ members axis t k
  members-same k h = λ j. walk (λ (i : ℕ). index_or (last-same k h j) (next-same i j)) (last-same k h j) most_segments (first-same k h j)

  led-same : (i : ℕ) → led_to table i ≡ led_to t i
  unfolding turned_segments
  led-same i = ap (index_or t.len) (next-same i)

  -- ---- sound rings
  edge-was : (k i : ℕ) → k < m → i < t.len → (segment_at table i).edge ≡ Some (turned_index m k) → (segment_at t i).edge ≡ Some k
  edge-was k i h l e =
      sym (link-twice m (segment_at t i).edge (edge-below axis t w v a i l))
      ∙ ap (turned_link m) (sym (ap (λ (s : Segment). s.edge) (turned-segment-at m t (segments_whole axis t w v a) i l)) ∙ e)
      ∙ ap Some (index-twice m k h)

  edge-is : (k i : ℕ) → i < t.len → (segment_at t i).edge ≡ Some k → (segment_at table i).edge ≡ Some (turned_index m k)
  edge-is k i l e = ap (λ (s : Segment). s.edge) (turned-segment-at m t (segments_whole axis t w v a) i l) ∙ ap (turned_link m) e

  of-same : (k i : ℕ) → k < m → i < t.len → is_of table (turned_index m k) i ≡ is_of t k i
  of-same k i h l =
      both_ways _ _
      (λ p. of-link (segment_at t i).edge k (edge-was k i h l (links-to (segment_at table i).edge (turned_index m k) p)))
      (λ p. of-link (segment_at table i).edge (turned_index m k) (edge-is k i l (links-to (segment_at t i).edge k p)))

  pub ring-sound : (k : ℕ) → k < m → Sound axis t k → Sound turned table (turned_index m k)
  unfolding turned_segments
  ring-sound k h s = record {
    starts = subst (λ (i : ℕ). i < t.len) (sym (first-same k h)) s.starts;
    stops = (λ j. ends (λ (i : ℕ). led-same i j) t.len (last-same k h j) most_segments (first-same k h j)) ∙ s.stops;
    closed = led-same (edge_at turned (turned_index m k)).last ∙ ap (led_to t) (last-same k h) ∙ s.closed ∙ sym (first-same k h);
    visits = λ i l.
        (λ j. times i (visited (λ (x : ℕ). led-same x j) (first-same k h j) (last-same k h j))) ∙ s.visits i l
        ∙ ap (λ (b : Bool). cond b 1 0) (sym (of-same k i h l));
  }
