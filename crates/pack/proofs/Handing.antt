-- What an accepted call hands back is accepted again: indices of segments are segments, and rings are sound.
use Rattle.std.specs.Prelude.{None, Some}
use mathlib.Core.Path.{◌≡◌, refl, sym, ap, subst, ◌∙◌}
use mathlib.Core.Bool.{Bool, true, false, cond, false≢true}
use Prim.Native.Nat.{ℕ, ◌≤◌, ◌<◌, min}
use native.Mathlib.Omega.{arith}
use borrow.Author.Tests.{lt-ltb, le-leb}
use lib.ListN.{length}
use Rattle.refusals.specs.Refusal.{refusal}
use Rattle.refusals.proofs.Tests.{no-refusal}
use Rattle.axis.specs.declared.edge.Edge.{Edge}
use Rattle.axis.specs.declared.edge.Axis.{Axis}
use Rattle.axis.specs.Link.{Link}
use Rattle.axis.specs.declared.segment.Segment.{Segment}
use Rattle.axis.specs.declared.segment.Segments.{Segments}
use Rattle.axis.specs.Accepted.{Below}
use Rattle.axis.specs.Edge.{edge_at}
use Rattle.axis.specs.Handed.{TypedAxis, Typed}
use Rattle.axis.specs.Limits.{most_edges, most_segments}
use Rattle.axis.specs.Link.{is_linked, index_or}
use Rattle.axis.specs.Refusals.{edge_indices, edges_indices, edge_segments, segment_edge, segment_indices, segments_indices}
use Rattle.axis.specs.Ring.{times, visited, is_of, led_to, Sound}
use Rattle.axis.specs.Segment.{segment_at}
use Rattle.axis.proofs.Acceptance.{below_none, below-to}
use Rattle.axis.proofs.Accepting.{link-holds, every_holds, nexts-hold}
use Rattle.axis.proofs.Sound.{sound-is, is-sound, of-link}
use Rattle.axis.proofs.Tests.{every-at}
use Rattle.turn.specs.Indices.{segments_edges, edges_segments}
use Rattle.pack.specs.Kept.{kept, new_index}
use Rattle.pack.specs.Packed.{moved, packed_segment, packed_edge, packed_segments, packed_axis}
use Rattle.pack.specs.Call.{rings_sound, packing_tests, Holding}
use Rattle.pack.proofs.Rounds.{and_both}
use Rattle.pack.proofs.Keeping.{kept-starts, kept-link, kept-serif}
use Rattle.pack.proofs.Choices.{Chosen, chosen_is}
use Rattle.pack.proofs.Places.{kept-few, new-below, packed-at, packed-len, packed-edge-at}
use Rattle.pack.proofs.Rings.{first-mine, last-mine, next-mine, ring-sound}
use Rattle.pack.proofs.Calls.{Taken}

moved-below : (new : ℕ → ℕ) (m : ℕ) (l : Link) → ((k : ℕ) → l ≡ Some k → new k < m) → Below m (moved new l)
moved-below new m None h = below_none m
moved-below new m (Some k) h = below-to m (new k) (h k refl)

to-of : (l : Link) → is_linked l ≡ true → (k : ℕ) × (l ≡ Some k)
to-of None e = absurd (false≢true e)
to-of (Some k) e = (k, refl)

module _ (axis : Axis) (t : Segments) (w : TypedAxis axis) (v : Typed t) (a : Taken axis t) where
  abbrev new : ℕ → ℕ
  new = new_index t

  abbrev packed : Axis
  packed = packed_axis t axis

  abbrev table : Segments
  table = packed_segments t

  abbrev h : Holding axis t
  h = a.holding

  pub edges_whole : axis.len ≤ length axis.edges
  edges_whole = omega (arith, w.places, h.edges.few)

  pub segments_whole : t.len ≤ length t.segments
  segments_whole = omega (arith, v.places, h.segments.few)

  pub sound : (k : ℕ) → k < axis.len → Sound axis t k
  unfolding rings_sound
  sound k b = sound-is (is_of t k) (led_to t) t.len (edge_at axis k).first (edge_at axis k).last (every-at _ k axis.len a.rings b)

  -- the next of a segment with an edge is a segment of that edge, and so kept
  next-own : (i k j : ℕ) → i < t.len → k < axis.len → (segment_at t i).edge ≡ Some k → (segment_at t i).next ≡ Some j → (segment_at t j).edge ≡ Some k
  next-own i k j l b e q =
      let s = sound k b in
      let once : times i (visited (led_to t) (edge_at axis k).first (edge_at axis k).last) ≡ 1 = s.visits i l
      ∙ ap (λ (x : Bool). cond x 1 0) (of-link (segment_at t i).edge k e) in
      ap (λ (x : ℕ). (segment_at t x).edge) (sym (ap (index_or t.len) q)) ∙ (next-mine axis t k s i (omega arith)).1

  next-kept : (i j : ℕ) → i < t.len → is_linked (segment_at t i).edge ≡ true → (segment_at t i).next ≡ Some j → kept t j ≡ true
  next-kept i j l e q =
      let k = to-of (segment_at t i).edge e in
      let b = (h.named i l).at k.0 k.1 in
      kept-starts t j ((h.segments.next i l).at j q) (ap is_linked (next-own i k.0 j l b k.1 q))

  -- ---- segments
  module _ (i : ℕ) (l : i < table.len) where
    from : Chosen (kept t) t.len i
    from = chosen_is (kept t) t.len i (subst (λ (n : ℕ). i < n) (packed-len t) l)

    here : segment_at table i ≡ packed_segment new (segment_at t from.it)
    here = ap (segment_at table) (sym from.place) ∙ packed-at t from.it from.below from.mine

    to-new : (j : ℕ) → j < t.len → kept t j ≡ true → new j < table.len
    to-new j b e = subst (λ (n : ℕ). new j < n) (sym (packed-len t)) (new-below t j b e)

    link-new : Below table.len (segment_at table i).link
    link-new = subst (λ (s : Segment). Below table.len s.link) (sym here) (moved-below new table.len (segment_at t from.it).link
        (λ k q. to-new k ((h.segments.link from.it from.below).at k q)
        (kept-link t h.segments.link h.segments.serif from.it k from.below from.mine q)))

    serif-new : Below table.len (segment_at table i).serif
    serif-new = subst (λ (s : Segment). Below table.len s.serif) (sym here) (moved-below new table.len (segment_at t from.it).serif
        (λ k q. to-new k ((h.segments.serif from.it from.below).at k q)
        (kept-serif t h.segments.link h.segments.serif from.it k from.below from.mine q)))

    next-by : (b : Bool) → is_linked (segment_at t from.it).edge ≡ b → Below table.len (cond b (moved new (segment_at t from.it).next) None)
    next-by true e =
        moved-below new table.len (segment_at t from.it).next
        (λ k q. to-new k ((h.segments.next from.it from.below).at k q) (next-kept from.it k from.below e q))
    next-by false e = below_none table.len

    next-new : Below table.len (segment_at table i).next
    next-new = subst (λ (s : Segment). Below table.len s.next) (sym here) (next-by (is_linked (segment_at t from.it).edge) refl)

    edge-new : Below axis.len (segment_at table i).edge
    edge-new = subst (λ (s : Segment). Below axis.len s.edge) (sym here) (h.named from.it from.below)

  few-new : table.len ≤ most_segments
  few-new = omega (arith, packed-len t, kept-few t, h.segments.few)

  axis-len : packed.len ≡ axis.len
  unfolding packed_axis
  axis-len = refl

  -- ---- edges
  first-kept : (k : ℕ) → k < axis.len → kept t (edge_at axis k).first ≡ true
  first-kept k b = let m = first-mine axis t k (sound k b) in kept-starts t (edge_at axis k).first m.0 (ap is_linked m.1)

  first-new : (k : ℕ) → k < axis.len → (edge_at packed k).first < table.len
  first-new k b =
      subst (λ (e : Edge). e.first < table.len) (sym (packed-edge-at t axis edges_whole k b))
      (subst (λ (n : ℕ). new (edge_at axis k).first < n) (sym (packed-len t)) (new-below t (edge_at axis k).first (h.edges.first k b) (first-kept k b)))

  last-kept : (k : ℕ) → k < axis.len → kept t (edge_at axis k).last ≡ true
  last-kept k b = let m = last-mine axis t k (sound k b) in kept-starts t (edge_at axis k).last m.0 (ap is_linked m.1)

  last-new : (k : ℕ) → k < axis.len → (edge_at packed k).last < table.len
  last-new k b =
      subst (λ (e : Edge). e.last < table.len) (sym (packed-edge-at t axis edges_whole k b))
      (subst (λ (n : ℕ). new (edge_at axis k).last < n) (sym (packed-len t)) (new-below t (edge_at axis k).last (h.edges.last k b) (last-kept k b)))

  -- ---- rings
  pub sound-new : (k : ℕ) → k < axis.len → Sound packed table k
  sound-new k b = ring-sound axis t edges_whole k b (sound k b)

  pub rings-new : rings_sound packed table ≡ true
  unfolding rings_sound
  rings-new =
      every_holds _ packed.len
      (λ k b. is-sound (is_of table k) (led_to table) table.len (edge_at packed k).first (edge_at packed k).last
      (sound-new k (subst (λ (n : ℕ). k < n) axis-len b)))

  -- ---- every test of the call
  same-indices : (e : Edge) → edge_indices axis.len e ≡ true → edge_indices axis.len (packed_edge new e) ≡ true
  unfolding edge_indices
  same-indices e q = q

  edges-indexed : edges_indices packed ≡ true
  unfolding edges_indices packed_axis
  edges-indexed = every_holds _ (min axis.len most_edges)
      (λ k l. subst (λ (e : Edge). edge_indices axis.len e ≡ true) (sym (packed-edge-at t axis edges_whole k (omega (arith, l))))
      (same-indices (edge_at axis k) (every-at _ k (min axis.len most_edges) a.indexed l)))

  segments-indexed : segments_indices table ≡ true
  unfolding segments_indices segment_indices
  segments-indexed = every_holds _ (min table.len most_segments)
      (λ i l.
      let b : i < table.len = omega (arith, l) in
      and_both _ _ (link-holds table.len (segment_at table i).link (link-new i b)) (link-holds table.len (segment_at table i).serif (serif-new i b)))

  to_edges : segments_edges packed.len table ≡ true
  unfolding segments_edges segment_edge
  to_edges =
      every_holds _ (min table.len most_segments)
      (λ i l. link-holds packed.len (segment_at table i).edge
      (subst (λ (n : ℕ). Below n (segment_at table i).edge) (sym axis-len) (edge-new i (omega (arith, l)))))

  to_segments : edges_segments table.len packed ≡ true
  unfolding edges_segments edge_segments
  to_segments = every_holds _ (min packed.len most_edges)
      (λ k l.
      let b : k < axis.len = omega (arith, l, axis-len) in
      and_both _ _ (lt-ltb (edge_at packed k).first table.len (first-new k b)) (lt-ltb (edge_at packed k).last table.len (last-new k b)))

  pub not-refused : refusal (packing_tests packed table) ≡ 0
  not-refused =
      no-refusal (packing_tests packed table) (
        le-leb table.len most_segments few-new,
        (
          le-leb packed.len most_edges (omega (arith, axis-len, h.edges.few)),
          (segments-indexed, (nexts-hold table next-new, (to_edges, (edges-indexed, (to_segments, (rings-new, refl)))))),
        ),
      )
