-- What `rings` makes of the lists of an axis is what mending says of the axis.
use Rattle.std.specs.Prelude.{None, Some}
use mathlib.Core.Path.{◌≡◌, refl, sym, ap, subst, ◌∙◌}
use mathlib.Core.Bool.{Bool, true, false, cond, not, ◌&&◌}
use mathlib.Core.List.{List, ◌++◌}
use mathlib.Core.Logic.{⊎_elim}
use Prim.Native.Nat.{ℕ, zero, suc, ◌+◌, ◌-◌, ◌≤◌, ◌<◌, min}
use native.Mathlib.Omega.{arith}
use borrow.Author.Tests.{ne_eqb, eq-eqb, lt-ltb, le-ltb}
use lib.Dec.{eqb, ltb}
use lib.ListN.{get_or}
use Rattle.signed.proofs.Signed.{lt-or-le}
use Rattle.axis.specs.declared.edge.Axis.{Axis}
use Rattle.axis.specs.Link.{Link}
use Rattle.axis.specs.declared.segment.Segments.{Segments}
use Rattle.axis.specs.Accepted.{Below}
use Rattle.axis.specs.Edge.{empty_edge, edge_at}
use Rattle.axis.specs.Limits.{most_edges, most_segments}
use Rattle.axis.specs.Link.{links_to, index_or}
use Rattle.axis.specs.Refusals.{every}
use Rattle.axis.specs.Segment.{empty_segment, segment_at}
use Rattle.mend.specs.Following.{total, count, closes, own_in, next_in}
use Rattle.mend.specs.Rebuilt.{first_from, last_below, lowest, highest, behind, Tallied, Led}
use Rattle.axis.proofs.Sound.{sound-is, leads-inside}
use Rattle.mend.proofs.Following.{closes-sound}
use Rattle.mend.proofs.Steps.{step-out}
use Rattle.mend.proofs.Sums.{total-same}
use Rattle.mend.proofs.Tallies.{lowest-again}
use Rattle.axis.specs.Ring.{is_of, led_to, is_sound}
use Rattle.mend.specs.Mended.{kept, segment_with, edge_with, mended_next, mended_segment, mended_edge, mended_segments, mended_axis}
use Rattle.mend.specs.Altered.{of_segment, of_edge, alterations}
use Rattle.mend.specs.Mend.{edges_named}
use Rattle.mend.specs.Plan.{Gathered, Told, planned_next, segment_by, edge_by, planned_segments, planned_axis, segments_listed, edges_listed}
use Rattle.mend.proofs.Lists.{order_same}
use Rattle.mend.proofs.Places.{fronts-same, mended-segment-at, mended-edge-at}
use Rattle.mend.proofs.Sound.{Mendable}

-- ---- tests that agree below n
pub every-same : (p q : ℕ → Bool) (n : ℕ) → ((i : ℕ) → i < n → p i ≡ q i) → every p n ≡ every q n
unfolding every
every-same p q zero h = refl
every-same p q (suc n) h =
    let a = every-same p q n (λ i l. h i (omega arith)) in
    let b = h n (omega arith) in
    λ j. a j && b j

module _ (own own' : ℕ → Bool) (n : ℕ) (same : (i : ℕ) → i < n → own i ≡ own' i) where
  count-agrees : count own n ≡ count own' n
  count-agrees = total-same (λ (i : ℕ). cond (own i) 1 0) (λ (i : ℕ). cond (own' i) 1 0) n (λ i h. ap (λ (b : Bool). cond b 1 0) (same i h))

  first-agrees : (j i other : ℕ) → i + j ≤ n → first_from own j i other ≡ first_from own' j i other
  unfolding first_from
  first-agrees zero i other h = refl
  first-agrees (suc j) i other h =
      let p = same i (omega arith) in
      let q = first-agrees j (i + 1) other (omega arith) in
      λ k. cond (p k) i (q k)

  last-agrees : (m other : ℕ) → m ≤ n → last_below own m other ≡ last_below own' m other
  unfolding last_below
  last-agrees zero other h = refl
  last-agrees (suc m) other h =
      let p = same m (omega arith) in
      let q = last-agrees m other (omega arith) in
      λ k. cond (p k) m (q k)

  lowest-agrees : lowest own n ≡ lowest own' n
  lowest-agrees = first-agrees n 0 0 (omega arith)

  highest-agrees : highest own n ≡ highest own' n
  highest-agrees = last-agrees n 0 (omega arith)

  closes-agrees : (next next' : ℕ → ℕ) (first last : ℕ) → ((i : ℕ) → i < n → next i ≡ next' i) → (left ix : ℕ)
      → closes own next n first last left ix ≡ closes own' next' n first last left ix
  unfolding closes
  closes-agrees next next' first last e zero ix = refl
  closes-agrees next next' first last e (suc left) ix =
      ⊎_elim
      (λ (h : ix < n).
      let o = same ix h in
      let x = e ix h in
      let rest = closes-agrees next next' first last e left (next ix) ∙ ap (closes own' next' n first last left) x in
      λ k. ltb ix n && (o k && cond (eqb ix last) (eqb left 0 && eqb (x k) first) (rest k)))
      (λ (h : n ≤ ix). step-out own next n first last (suc left) ix (omega arith) h ∙ sym (step-out own' next' n first last (suc left) ix (omega arith) h))
      (lt-or-le ix n)

-- ---- the lists of an axis
module _ (axis : Axis) (t : Segments) (edges next : List ℕ) (few : t.len ≤ most_segments) (few-edges : axis.len ≤ most_edges) (g : Gathered t edges next) where
  abbrev n : ℕ
  n = t.len

  own_is : (k i : ℕ) → k < most_edges → i < n → own_in edges k i ≡ is_of t k i
  unfolding links_to
  own_is k i l h = ap (λ (x : ℕ). eqb x k) (g.edge_of i h) ∙ by (segment_at t i).edge
    where
      by : (x : Link) → eqb (index_or most_edges x) k ≡ links_to x k
      by None = ne_eqb most_edges k (λ (q : most_edges ≡ k). omega arith)
      by (Some j) = refl

  -- the test along the lists tells whether the ring is sound
  pub ring-told : (k : ℕ) → k < axis.len → (c : ℕ) → c ≡ count (own_in edges k) n
      → closes (own_in edges k) (next_in next) n (edge_at axis k).first (edge_at axis k).last c (edge_at axis k).first ≡ is_sound axis t k
  ring-told k l c e =
      closes-agrees (own_in edges k) (is_of t k) n (λ i h. own_is k i (omega arith) h) (next_in next) (led_to t) (edge_at axis k).first (edge_at axis k).last
      (λ i h. g.next_of i h) c (edge_at axis k).first
      ∙ ap (λ (x : ℕ). closes (is_of t k) (led_to t) n (edge_at axis k).first (edge_at axis k).last x (edge_at axis k).first)
      (e ∙ count-agrees (own_in edges k) (is_of t k) n (λ i h. own_is k i (omega arith) h))
      ∙ closes-sound (is_of t k) (led_to t) n (edge_at axis k).first (edge_at axis k).last few

  -- the lowest and the highest are those of the edge
  pub low-is : (k : ℕ) → k < axis.len → lowest (own_in edges k) n ≡ lowest (is_of t k) n
  low-is k l = lowest-agrees (own_in edges k) (is_of t k) n (λ i h. own_is k i (omega arith) h)

  pub high_is : (k : ℕ) → k < axis.len → highest (own_in edges k) n ≡ highest (is_of t k) n
  high_is k l = highest-agrees (own_in edges k) (is_of t k) n (λ i h. own_is k i (omega arith) h)

  -- each edge has a segment by the counts
  pub named-told : (counts lows highs : List ℕ) → Tallied edges n counts lows highs → every (λ (k : ℕ). ltb 0 (get_or counts k 0)) axis.len ≡ edges_named axis t
  unfolding edges_named
  named-told counts lows highs a =
      every-same _ _ axis.len
      (λ (k : ℕ) (h : k < axis.len). ap (ltb 0) (a.counted k (omega arith) ∙ count-agrees (own_in edges k) (is_of t k) n (λ i l. own_is k i (omega arith) l)))
      ∙ ap (every (λ (k : ℕ). ltb 0 (count (is_of t k) n))) (let z : axis.len ≡ min axis.len most_edges = omega arith in z)

  -- ---- what was led is what mending says
  module _ (broken : List Bool) (counts lows highs seen next' : List ℕ) (b : Told axis t broken) (a : Tallied edges n counts lows highs)
      (l : Led edges n broken lows next seen next') where
    -- the next of a segment of edge k
    pub next-planned : (i k : ℕ) → i < n → k < axis.len → (segment_at t i).edge ≡ Some k
        → Some (get_or next' i 0) ≡ mended_next axis t i (Some k) (segment_at t i).next
    unfolding mended_next links_to
    next-planned i k h m e = by (is_sound axis t k) refl
      where
        edge-is : get_or edges i 0 ≡ k
        edge-is = g.edge_of i h ∙ ap (index_or most_edges) e

        own : is_of t k i ≡ true
        own = ap (λ (x : Link). links_to x k) e ∙ eq-eqb k k refl

        whole : (x : Link) → index_or n x < n → Some (index_or n x) ≡ x
        whole None q = absurd (omega arith)
        whole (Some j) q = refl

        by : (x : Bool) → is_sound axis t k ≡ x → Some (get_or next' i 0) ≡ cond x (segment_at t i).next (Some (behind (is_of t k) n i))
        by true q =
            ap Some (l.kept i k edge-is (omega arith) (b.ring k m ∙ ap not q) ∙ g.next_of i h)
            ∙ whole (segment_at t i).next
            (leads-inside (is_of t k) (led_to t) n (edge_at axis k).first (edge_at axis k).last
            (sound-is (is_of t k) (led_to t) n (edge_at axis k).first (edge_at axis k).last q) i h own)
        by false q =
            ap Some
            (l.anew i k h edge-is (omega arith) (b.ring k m ∙ ap not q)
            ∙ first-agrees (own_in edges k) (is_of t k) n (λ j r. own_is k j (omega arith) r) (n - (i + 1)) (i + 1) (get_or lows k 0) (omega arith)
            ∙ ap (first_from (is_of t k) (n - (i + 1)) (i + 1)) (a.low k (omega arith) ∙ low-is k m))

    -- the lowest is seen last, so that the list of those seen is that of the lowest again
    seen-is : (k : ℕ) → k < axis.len → 0 < count (is_of t k) n → get_or broken k false ≡ true → get_or seen k 0 ≡ lowest (is_of t k) n
    seen-is k m some q =
        l.lowest_seen k (omega arith) q
        ∙ ap (first_from (own_in edges k) n 0) (a.low k (omega arith))
        ∙ lowest-again (own_in edges k) n (omega (arith, count-agrees (own_in edges k) (is_of t k) n (λ i h. own_is k i (omega arith) h)))
        ∙ low-is k m

    -- first and last of edge k
    pub first-planned : (k : ℕ) → k < axis.len → 0 < count (is_of t k) n
        → cond (get_or broken k false) (get_or seen k 0) (edge_at axis k).first ≡ (mended_edge axis t k (edge_at axis k)).first
    first-planned k m some = by (is_sound axis t k) refl
      where
        by : (x : Bool) → is_sound axis t k ≡ x → cond (get_or broken k false) (get_or seen k 0) (edge_at axis k).first
            ≡ cond x (edge_at axis k).first (lowest (is_of t k) n)
        by true q = ap (λ (x : Bool). cond x (get_or seen k 0) (edge_at axis k).first) (b.ring k m ∙ ap not q)
        by false q =
            let told = b.ring k m ∙ ap not q in
            ap (λ (x : Bool). cond x (get_or seen k 0) (edge_at axis k).first) told ∙ seen-is k m some told

    pub last-planned : (k : ℕ) → k < axis.len → cond (get_or broken k false) (get_or highs k 0) (edge_at axis k).last ≡ (mended_edge axis t k (edge_at axis k)).last
    last-planned k m = ap (λ (x : Bool). cond x (get_or highs k 0) (edge_at axis k).last) (b.ring k m) ∙ by (is_sound axis t k)
      where
        by : (x : Bool) → cond (not x) (get_or highs k 0) (edge_at axis k).last ≡ cond x (edge_at axis k).last (highest (is_of t k) n)
        by true = refl
        by false = a.high k (omega arith) ∙ high_is k m

    -- ---- so the tables are the mended ones, and so is the list
    module _ (ready : Mendable axis t) where
      next_is : (i : ℕ) → i < n → planned_next n (get_or edges i 0) (get_or next' i 0) (segment_at t i).next
          ≡ mended_next axis t i (segment_at t i).edge (segment_at t i).next
      unfolding mended_next
      next_is i h = by (segment_at t i).edge refl (ready.to_edges i h)
        where
          by : (x : Link) → (segment_at t i).edge ≡ x → Below axis.len x
              → planned_next n (get_or edges i 0) (get_or next' i 0) (segment_at t i).next ≡ mended_next axis t i x (segment_at t i).next
          by None e w =
              ap (λ (b : Bool). cond b (Some (get_or next' i 0)) (kept n (segment_at t i).next))
              (le-ltb (get_or edges i 0) most_edges (omega (arith, g.edge_of i h ∙ ap (index_or most_edges) e)))
          by (Some k) e w =
              let m = w.at k refl in
              ap (λ (b : Bool). cond b (Some (get_or next' i 0)) (kept n (segment_at t i).next))
              (lt-ltb (get_or edges i 0) most_edges (omega (arith, g.edge_of i h ∙ ap (index_or most_edges) e)))
              ∙ next-planned i k h m e

      segment-is : (i : ℕ) → i < n → segment_by n edges next' i (segment_at t i) ≡ mended_segment axis t i (segment_at t i)
      segment-is i h = ap (segment_with (segment_at t i) (kept n (segment_at t i).link) (kept n (segment_at t i).serif)) (next_is i h)

      edge-is : (k : ℕ) → k < axis.len → edge_by axis.len broken seen highs k (edge_at axis k) ≡ mended_edge axis t k (edge_at axis k)
      edge-is k h =
          let e = edge_at axis k in
          λ j. edge_with e (kept axis.len e.link) (kept axis.len e.serif) (first-planned k h (ready.named k h) j) (last-planned k h j)

      pub segments-planned : planned_segments edges next' t ≡ mended_segments axis t
      unfolding planned_segments mended_segments
      segments-planned =
          λ j. record {
            segments = fronts-same (segment_by n edges next') (mended_segment axis t) t.segments n empty_segment ready.segments_whole
                segment-is j;
            len = n;
          }

      pub axis-planned : planned_axis broken seen highs axis ≡ mended_axis axis t
      unfolding planned_axis mended_axis
      axis-planned = λ j. record {
        dim = axis.dim;
        major_dir = axis.major_dir;
        edges = fronts-same (edge_by axis.len broken seen highs) (mended_edge axis t) axis.edges axis.len empty_edge ready.edges_whole edge-is j;
        len = axis.len;
      }

      pub list-planned : segments_listed edges next' t n ++ edges_listed broken seen highs axis axis.len
          ≡ alterations axis t (mended_axis axis t) (mended_segments axis t)
      unfolding alterations
      list-planned =
          let ss = order_same _ _ n (λ (i : ℕ) (h : i < n). ap (of_segment i (segment_at t i))
          (segment-is i h ∙ sym (mended-segment-at axis t ready.segments_whole i h))) in
          let es = order_same _ _ axis.len (λ (k : ℕ) (h : k < axis.len). ap (of_edge k (edge_at axis k))
          (edge-is k h ∙ sym (mended-edge-at axis t ready.edges_whole k h))) in
          λ j. ss j ++ es j
