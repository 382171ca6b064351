-- What a call that is not refused has tested, and the new count.
use mathlib.Core.Path.{◌≡◌, refl, sym, ap, ◌∙◌}
use mathlib.Core.Bool.{Bool, true, false, cond}
use mathlib.Core.List.{List}
use mathlib.Core.Logic.{⊎_elim}
use Prim.Native.Nat.{ℕ, zero, suc, ◌+◌, ◌≤◌, ◌<◌, min}
use native.Mathlib.Nat.{eq-or-lt_of_le}
use native.Mathlib.Omega.{arith}
use borrow.Author.Tests.{leb-true, ltb-true}
use lib.Dec.{ltb}
use Rattle.refusals.specs.Refusal.{refusal, or_refused, broken_ring}
use Rattle.refusals.proofs.Tests.{AllHold, all_hold, and_first, and_second, one_more, or_kept}
use Rattle.axis.specs.declared.edge.Axis.{Axis}
use Rattle.axis.specs.declared.segment.Segments.{Segments}
use Rattle.axis.specs.Edge.{edge_at}
use Rattle.axis.specs.Limits.{most_edges, most_segments}
use Rattle.axis.specs.Refusals.{link_holds, edges_indices, edge_segments, segment_edge, segment_indices, segments_indices}
use Rattle.axis.specs.Segment.{segment_at}
use Rattle.axis.proofs.Acceptance.{link-below, nexts-below}
use Rattle.axis.proofs.Tests.{every-at}
use Rattle.turn.specs.Indices.{segments_edges, edges_segments, index_tests}
use Rattle.mend.proofs.Sums.{count-few}
use Rattle.mend.specs.Following.{total, count}
use Rattle.pack.specs.Sets.{is_in}
use Rattle.pack.specs.Listing.{Placed, Numbered}
use Rattle.pack.specs.Kept.{kept, Linked, KeptAre}
use Rattle.pack.specs.Packed.{kept_count, SegmentsHold}
use Rattle.pack.specs.Call.{rings_sound, packing_tests, Holding}
use Rattle.pack.proofs.Counts.{count_same}
use Rattle.pack.proofs.Keeping.{kept-below}

-- ---- the tests
pub holding : (axis : Axis) (t : Segments) → AllHold (index_tests axis t) → Holding axis t
unfolding segments_indices segment_indices segments_edges segment_edge edges_segments edge_segments
holding axis t h =
    let few = leb-true t.len most_segments h.0 in
    let most = leb-true axis.len most_edges h.1.0 in
    let links = h.1.1.0 in
    let edges = h.1.1.1.1.0 in
    let ends = h.1.1.1.1.1.1.0 in
    record {
      segments = record {
        few = few;
        link = λ i l. link-below t.len (segment_at t i).link (and_first _ _ (every-at _ i (min t.len most_segments) links (omega arith)));
        serif =
            λ i l. link-below t.len (segment_at t i).serif
            (and_second (link_holds t.len (segment_at t i).link) _ (every-at _ i (min t.len most_segments) links (omega arith)));
        next = λ i l. nexts-below t i few h.1.1.1.0 l;
      };
      edges = record {
        few = most;
        first = λ k l. ltb-true (edge_at axis k).first t.len (and_first _ _ (every-at _ k (min axis.len most_edges) ends (omega arith)));
        last =
            λ k l. ltb-true (edge_at axis k).last t.len
            (and_second (ltb (edge_at axis k).first t.len) _ (every-at _ k (min axis.len most_edges) ends (omega arith)));
      };
      named = λ i l. link-below axis.len (segment_at t i).edge (every-at _ i (min t.len most_segments) edges (omega arith));
    }

-- none of the first ones
pub held : (axis : Axis) (t : Segments) (k : ℕ) → k ≡ refusal (index_tests axis t) → k ≤ 0 → Holding axis t
held axis t k e z = let q : k ≡ 0 = omega arith in holding axis t (all_hold (index_tests axis t) refl (sym e ∙ q))

-- one of them refuses, and behind them rings
pub refused-first : (axis : Axis) (t : Segments) (k : ℕ) → k ≡ refusal (index_tests axis t) → 0 < k → k ≡ refusal (packing_tests axis t)
refused-first axis t k e h =
    or_kept k broken_ring (rings_sound axis t) h ∙ ap (λ (j : ℕ). or_refused j (rings_sound axis t) broken_ring) e
    ∙ one_more (index_tests axis t) broken_ring (rings_sound axis t) refl

pub refused-last : (axis : Axis) (t : Segments) (k r : ℕ) (b : Bool) → k ≡ refusal (index_tests axis t) → k ≤ 0 → b ≡ rings_sound axis t
    → r ≡ or_refused 0 b broken_ring
    → r ≡ refusal (packing_tests axis t)
refused-last axis t k r b e h q p =
    let z : 0 ≡ k = omega arith in
    p ∙ (λ i. or_refused ((z ∙ e) i) (q i) broken_ring) ∙ one_more (index_tests axis t) broken_ring (rings_sound axis t) refl

-- ---- what all of them say
pub record Taken (axis : Axis) (t : Segments) : Type 0 where
  pub holding : Holding axis t
  pub indexed : edges_indices axis ≡ true
  pub rings : rings_sound axis t ≡ true

pub taken : (axis : Axis) (t : Segments) → refusal (packing_tests axis t) ≡ 0 → Taken axis t
taken axis t e =
    let h = all_hold (packing_tests axis t) refl e in
    record {
      holding = holding axis t (
        h.0,
        (
          h.1.0,
          (h.1.1.0, (h.1.1.1.0, (h.1.1.1.1.0, (h.1.1.1.1.1.0, (h.1.1.1.1.1.1.0, refl))))),
        ),
      );
      indexed = h.1.1.1.1.1.0;
      rings = h.1.1.1.1.1.1.1.0;
    }

pub linked : {t : Segments} → SegmentsHold t → Linked t
linked h = record { few = h.few; linked = h.link; serifed = h.serif }

-- ---- the count
-- no number of a set is at m or above
count-behind : (s : ℕ → Bool) (m n : ℕ) → m ≤ n → ((k : ℕ) → s k ≡ true → k < m) → count s n ≡ count s m
unfolding total
count-behind s m zero h b = let e : m ≡ 0 = omega arith in rw e
count-behind s m (suc n) h b =
    ⊎_elim
    (λ (e : m ≡ suc n). rw e)
    (λ (l : m < suc n). ap (λ (x : Bool). count s n + cond x 1 0) (out (omega arith) (s n) refl) ∙ omega (arith, count-behind s m n (omega arith) b))
    (eq-or-lt_of_le h)
  where
    out : m ≤ n → (x : Bool) → s n ≡ x → s n ≡ false
    out l true e = absurd (let g = b n e in omega arith)
    out l false e = e

pub number-few : (t : Segments) (list : List Bool) (n : ℕ) → t.len ≤ most_segments → KeptAre t list → n ≡ count (is_in list) most_segments
    → ((k : ℕ) → is_in list k ≡ true → k < t.len) → n ≡ kept_count t
number-few t list n few a e inside = e ∙ count-behind (is_in list) t.len most_segments few inside ∙ count_same (is_in list) (kept t) t.len (λ i h. a.at i)

pub all-counted : (t : Segments) (list : List Bool) (new : List ℕ) (n : ℕ) → SegmentsHold t → KeptAre t list → Numbered list new n → n ≡ kept_count t
all-counted t list new n h a w = number-few t list n h.few a w.all (λ k e. kept-below t h.link h.serif k (sym (a.at k) ∙ e))

pub placed : (list : List Bool) (new : List ℕ) (n : ℕ) → Numbered list new n → Placed new
placed list new n w = record { at = λ i h. omega (arith, w.at i h, count-few (is_in list) i) }
