-- Every ring of a mended axis is sound, and its indices pass document 01's test.
use Rattle.std.specs.Prelude.{None, Some}
use mathlib.Core.Path.{◌≡◌, refl, sym, ap, subst, ◌∙◌}
use mathlib.Core.Bool.{Bool, true, false, cond}
use mathlib.Core.Logic.{◌⊎◌, inl, inr, ⊎_elim}
use Prim.Native.Nat.{ℕ, ◌+◌, ◌≤◌, ◌<◌}
use native.Mathlib.Omega.{arith}
use borrow.Author.Tests.{eqb-true, ltb-true, lt-ltb}
use lib.Dec.{ltb}
use lib.ListN.{length}
use Rattle.signed.proofs.Signed.{lt-or-le}
use Rattle.axis.specs.declared.edge.Edge.{Edge}
use Rattle.axis.specs.declared.edge.Axis.{Axis}
use Rattle.axis.specs.Link.{Link}
use Rattle.axis.specs.declared.segment.Segment.{Segment}
use Rattle.axis.specs.declared.segment.Segments.{Segments}
use Rattle.axis.specs.Accepted.{Below}
use Rattle.axis.specs.Edge.{edge_at}
use Rattle.axis.specs.Limits.{most_segments}
use Rattle.axis.specs.Link.{links_to, index_or}
use Rattle.axis.specs.Refusals.{link_holds}
use Rattle.axis.specs.Segment.{segment_at}
use Rattle.axis.specs.Ring.{SoundRing, sound_ring, is_of, led_to, Sound, is_sound}
use Rattle.mend.specs.Following.{count}
use Rattle.mend.specs.Rebuilt.{lowest, highest, behind}
use Rattle.axis.proofs.Sound.{sound-is, is-sound, last-inside, leads-inside, links-to}
use Rattle.mend.proofs.Following.{sound-same}
use Rattle.mend.proofs.Rising.{rising-sound}
use Rattle.mend.specs.Mended.{kept, mended_next, mended_segment, mended_edge, mended_segments, mended_axis}
use Rattle.mend.proofs.Places.{mended-segment-at, segments-behind, mended-edge-at}

-- what a call that is not refused has of its tables: they have all their places, the edge of each segment is one of the edges, and each edge has a segment
pub record Mendable (axis : Axis) (t : Segments) : Type 0 where
  pub segments_whole : t.len ≤ length t.segments
  pub edges_whole : axis.len ≤ length axis.edges
  pub few : t.len ≤ most_segments
  pub to_edges : (i : ℕ) → i < t.len → Below axis.len (segment_at t i).edge
  pub named : (k : ℕ) → k < axis.len → 0 < count (is_of t k) t.len

-- ---- one index
none-holds : (n : ℕ) → link_holds n None ≡ true
unfolding link_holds
none-holds n = refl

pub kept-holds : (n : ℕ) (l : Link) → link_holds n (kept n l) ≡ true
kept-holds n l = by (link_holds n l) refl
  where
    by : (b : Bool) → link_holds n l ≡ b → link_holds n (cond b l None) ≡ true
    by true e = e
    by false e = none-holds n

pub kept_same : (n : ℕ) (l : Link) → link_holds n l ≡ true → kept n l ≡ l
kept_same n l e = rw e

-- an index that is read as a number below n is one
pub index_below : (n : ℕ) (l : Link) → index_or n l < n → link_holds n l ≡ true
unfolding link_holds
index_below n None h = absurd (omega arith)
index_below n (Some k) h = lt-ltb k n h

module _ (axis : Axis) (t : Segments) (a : Mendable axis t) where
  abbrev n : ℕ
  n = t.len

  abbrev axis' : Axis
  axis' = mended_axis axis t

  abbrev t' : Segments
  t' = mended_segments axis t

  -- ---- the same segments of each edge
  pub edge_same : (i : ℕ) → (segment_at t' i).edge ≡ (segment_at t i).edge
  edge_same i =
      ⊎_elim
      (λ (h : i < n). ap (λ (s : Segment). s.edge) (mended-segment-at axis t a.segments_whole i h))
      (λ (h : n ≤ i). ap (λ (s : Segment). s.edge) (segments-behind axis t a.segments_whole i h))
      (lt-or-le i n)

  pub own_same : (k : ℕ) → is_of t' k ≡ is_of t k
  own_same k = λ j i. links_to (edge_same i j) k

  count_same : t'.len ≡ n
  unfolding mended_segments
  count_same = refl

  -- ---- the next of a segment of edge k
  next-at : (i k : ℕ) → i < n → is_of t k i ≡ true → (segment_at t' i).next ≡ cond (is_sound axis t k) (segment_at t i).next (Some (behind (is_of t k) n i))
  unfolding mended_next
  next-at i k h o =
      ap (λ (s : Segment). s.next) (mended-segment-at axis t a.segments_whole i h)
      ∙ ap (λ (l : Link). mended_next axis t i l (segment_at t i).next) (links-to (segment_at t i).edge k o)

  first-at : (k : ℕ) → k < axis.len → (edge_at axis' k).first ≡ cond (is_sound axis t k) (edge_at axis k).first (lowest (is_of t k) n)
  first-at k h = ap (λ (e : Edge). e.first) (mended-edge-at axis t a.edges_whole k h)

  last-at : (k : ℕ) → k < axis.len → (edge_at axis' k).last ≡ cond (is_sound axis t k) (edge_at axis k).last (highest (is_of t k) n)
  last-at k h = ap (λ (e : Edge). e.last) (mended-edge-at axis t a.edges_whole k h)

  -- ---- the ring, with its old segments and its new nexts
  ring : (k : ℕ) → k < axis.len → (b : Bool) → is_sound axis t k ≡ b
      → SoundRing (is_of t k) (λ (i : ℕ). index_or n (segment_at t' i).next) n (cond b (edge_at axis k).first (lowest (is_of t k) n))
      (cond b (edge_at axis k).last (highest (is_of t k) n))
  ring k h true e =
      sound-same (is_of t k) (led_to t) (λ (i : ℕ). index_or n (segment_at t' i).next) n (edge_at axis k).first (edge_at axis k).last
      (λ i q o. ap (index_or n) (sym (next-at i k q o ∙ ap (λ (b : Bool). cond b (segment_at t i).next (Some (behind (is_of t k) n i))) e)))
      a.few (sound-is (is_of t k) (led_to t) n (edge_at axis k).first (edge_at axis k).last e)
  ring k h false e =
      rising-sound (is_of t k) (λ (i : ℕ). index_or n (segment_at t' i).next) n
      (λ i q o. ap (index_or n) (next-at i k q o ∙ ap (λ (b : Bool). cond b (segment_at t i).next (Some (behind (is_of t k) n i))) e))
      a.few (a.named k h)

  -- every ring is sound
  pub mended-sound : (k : ℕ) → k < axis.len → Sound axis' t' k
  unfolding mended_segments
  mended-sound k h =
      subst (λ (own : ℕ → Bool). SoundRing own (led_to t') n (edge_at axis' k).first (edge_at axis' k).last) (sym (own_same k))
      (subst (λ (x : ℕ). SoundRing (is_of t k) (led_to t') n x (edge_at axis' k).last) (sym (first-at k h))
      (subst (λ (x : ℕ). SoundRing (is_of t k) (led_to t') n (cond (is_sound axis t k) (edge_at axis k).first (lowest (is_of t k) n)) x) (sym (last-at k h))
      (ring k h (is_sound axis t k) refl)))
