-- What every segment keeps through the rounds: one law, for any property of a segment and its place that losing the link and a better stem keep.
use Rattle.std.specs.Prelude.{None, Some}
use mathlib.Core.Path.{◌≡◌, refl, sym, subst}
use mathlib.Core.Bool.{Bool, true, false, cond}
use mathlib.Core.Logic.{◌⊎◌, inl, inr, ⊎_elim}
use Prim.Native.Nat.{ℕ, ◌<◌, ◌≤◌}
use native.Mathlib.Omega.{arith}
use borrow.Author.Tests.{eqb-true, eqb-false}
use lib.Dec.{eqb}
use lib.ListN.{length}
use lib.Seq.{get_or-set_same, get_or-set_other, set_out}
use Rattle.signed.proofs.Signed.{lt-or-le}
use Rattle.signed.proofs.Choices.{cond_cases, either_way}
use Rattle.axis.specs.declared.kinds.Direction.{Direction}
use Rattle.axis.specs.Link.{Link}
use Rattle.axis.specs.declared.segment.Segment.{Segment}
use Rattle.axis.specs.declared.segment.Segments.{Segments}
use Rattle.axis.specs.Accepted.{Below}
use Rattle.axis.specs.Direction.{same}
use Rattle.axis.specs.Link.{links_to}
use Rattle.axis.specs.Segment.{empty_segment, segment_at, put_segment}
use Rattle.axis.proofs.Acceptance.{below-to}
use Rattle.link.specs.declared.thresholds.Thresholds.{Thresholds}
use Rattle.link.specs.Loops.{turns}
use Rattle.link.specs.Pairs.{
  gap_of,
  facing,
  check_seg,
  linked_by,
  improved_by,
  serif_of,
  unlinked,
  near_stem,
  encloses,
  much_longer,
  rewritten,
  stays_serif,
  settled,
}
use Rattle.link.specs.Rounds.{improve_pair, pair_turn, major_turn, pair_round, rewrite_turn, rewrite_all, unlink, held_to, hold_turn, given_up, hold}
use Rattle.link.specs.Rounds.{serif_to, serif_turn, serif_round, last_to, last_turn, last_round, linked}
use Rattle.link.proofs.Loops.{keeps, till-keeps}

-- ---- a place that is written
same_place : (t : Segments) (i : ℕ) (s : Segment) → (segment_at (put_segment t i s) i ≡ s) ⊎ (segment_at (put_segment t i s) i ≡ segment_at t i)
same_place t i s =
    ⊎_elim
    (λ (h : i < length t.segments). inl (get_or-set_same t.segments i s empty_segment h))
    (λ (h : length t.segments ≤ i). inr (rw set_out))
    (lt-or-le i (length t.segments))

-- ---- what holds of every segment
-- a table of n segments, each of which has the property P of its place
pub record Every (n : ℕ) (P : ℕ → Segment → Type 0) (t : Segments) : Type 0 where
  pub size : t.len ≡ n
  pub each : (i : ℕ) → i < n → P i (segment_at t i)

-- link and serif of a segment are below n, whatever its place
pub record Inside (n i : ℕ) (s : Segment) : Type 0 where
  pub link : Below n s.link
  pub serif : Below n s.serif

-- ---- one property
module _ (n : ℕ) (P : ℕ → Segment → Type 0)
    (inside : (i : ℕ) (s : Segment) → i < n → P i s → Inside n i s)
    (loosed : (i : ℕ) (s : Segment) (l : Link) → i < n → Below n l → P i s → P i (serif_of s l)) where
  pub put : (i : ℕ) (t : Segments) (s : Segment) → Every n P t → P i s → Every n P (put_segment t i s)
  put i t s h p = record { size = h.size; each = λ k l. by_place k l (eqb k i) refl }
    where
      by_place : (k : ℕ) → k < n → (b : Bool) → eqb k i ≡ b → P k (segment_at (put_segment t i s) k)
      by_place k l true e =
          rw (eqb-true k i e)
          (⊎_elim
          (λ (w : segment_at (put_segment t i s) i ≡ s). subst (P i) (sym w) p)
          (λ (w : segment_at (put_segment t i s) i ≡ segment_at t i). subst (P i) (sym w) (h.each i (let q = eqb-true k i e in omega arith)))
          (same_place t i s))
      by_place k l false e = subst (P k) (sym (get_or-set_other t.segments i k s empty_segment (eqb-false k i e))) (h.each k l)

  -- ---- the serif round
  rewrite : (j l m i x : ℕ) (t : Segments) → l < n → i < n → x < n → Every n P t → Every n P (rewrite_turn j l m i x t)
  unfolding rewrite_turn rewritten
  rewrite j l m i x t q r p h =
      let s = segment_at t x in
      let k = h.each x p in
      put x t (cond (links_to s.link j) (serif_of s (Some l)) (cond (links_to s.link m) (serif_of s (Some i)) s)) h
      (either_way (P x) (links_to s.link j) (serif_of s (Some l)) (cond (links_to s.link m) (serif_of s (Some i)) s)
      (loosed x s (Some l) p (below-to n l q) k)
      (either_way (P x) (links_to s.link m) (serif_of s (Some i)) s (loosed x s (Some i) p (below-to n i r) k) k))

  rewrites : (j l m i : ℕ) (t : Segments) → l < n → i < n → Every n P t → Every n P (rewrite_all j l m i t)
  unfolding rewrite_all
  rewrites j l m i t q r h =
      subst (λ (d : ℕ). Every n P (turns (rewrite_turn j l m i) d t)) (sym h.size)
      (keeps (Every n P) (rewrite_turn j l m i) n n t (λ x u p g. rewrite j l m i x u q r p g) (omega arith) h)

  loose : (i : ℕ) (t : Segments) → i < n → Every n P t → Every n P (unlink i t)
  unfolding unlink
  loose i t p h =
      let s = segment_at t i in
      let k = h.each i p in
      put i t (unlinked s) h (loosed i s s.serif p (inside i s p k).serif k)

  held : (seg1 link1 : Segment) (i l j : ℕ) (to : Link) (t : Segments) → i < n → l < n → Every n P t → Every n P (held_to seg1 link1 i l j to t)
  unfolding held_to
  held seg1 link1 i l j None t p q h = h
  held seg1 link1 i l j (Some m) t p q h =
      either_way (Every n P) (encloses seg1 link1 (segment_at t j) (segment_at t m) i j)
      (cond (much_longer seg1 (segment_at t j)) (rewrite_all j l m i t) (unlink l (unlink i t))) t
      (either_way (Every n P) (much_longer seg1 (segment_at t j)) (rewrite_all j l m i t) (unlink l (unlink i t)) (rewrites j l m i t q p h)
      (loose l (unlink i t) q (loose i t p h)))
      h

  pub hold-kept : (seg1 link1 : Segment) (i l j : ℕ) (t : Segments) → i < n → l < n → Every n P t → Every n P (hold_turn seg1 link1 i l j t)
  unfolding hold_turn
  hold-kept seg1 link1 i l j t p q h = held seg1 link1 i l j (segment_at t j).link t p q h

  holds : (seg1 link1 : Segment) (i l : ℕ) (t : Segments) → i < n → l < n → Every n P t → Every n P (hold seg1 link1 i l n t)
  unfolding hold
  holds seg1 link1 i l t p q h =
      till-keeps (given_up seg1 link1 i l) (hold_turn seg1 link1 i l) (Every n P) n n 0 t (λ j u x g. hold-kept seg1 link1 i l j u p q g) (omega arith) h

  module _ (by : Thresholds) where
    serif-to : (i : ℕ) (to : Link) (t : Segments) → Below n to → i < n → Every n P t → Every n P (serif_to by n i to t)
    unfolding serif_to
    serif-to i None t b p h = h
    serif-to i (Some l) t b p h =
        either_way (Every n P) (near_stem by (segment_at t i) (segment_at t l) i) (hold (segment_at t i) (segment_at t l) i l n t) t
        (holds (segment_at t i) (segment_at t l) i l t p (b.at l refl) h) h

    pub serif-kept : (i : ℕ) (t : Segments) → i < n → Every n P t → Every n P (serif_turn by n i t)
    unfolding serif_turn
    serif-kept i t p h = serif-to i (segment_at t i).link t (inside i (segment_at t i) p (h.each i p)).link p h

    pub serifs-kept : (t : Segments) → Every n P t → Every n P (serif_round by t)
    unfolding serif_round
    serifs-kept t h =
        subst (λ (m : ℕ). Every n P (turns (serif_turn by m) m t)) (sym h.size) (keeps (Every n P) (serif_turn by n) n n t serif-kept (omega arith) h)

    -- ---- the last round
    last-to : (i : ℕ) (to : Link) (t : Segments) → Below n to → i < n → Every n P t → Every n P (last_to by i to t)
    unfolding last_to settled
    last-to i None t b p h = h
    last-to i (Some m) t b p h =
        let seg1 = segment_at t i in
        let seg2 = segment_at t m in
        let x = b.at m refl in
        let k = h.each i p in
        put i t (cond (links_to seg2.link i) seg1 (cond (stays_serif by seg1 seg2) (serif_of seg1 seg2.link) (unlinked seg1))) h
        (either_way (P i) (links_to seg2.link i) seg1 (cond (stays_serif by seg1 seg2) (serif_of seg1 seg2.link) (unlinked seg1)) k
        (either_way (P i) (stays_serif by seg1 seg2) (serif_of seg1 seg2.link) (unlinked seg1)
        (loosed i seg1 seg2.link p (inside m seg2 x (h.each m x)).link k)
        (loosed i seg1 seg1.serif p (inside i seg1 p k).serif k)))

    pub last-kept : (i : ℕ) (t : Segments) → i < n → Every n P t → Every n P (last_turn by i t)
    unfolding last_turn
    last-kept i t p h = last-to i (segment_at t i).link t (inside i (segment_at t i) p (h.each i p)).link p h

    pub lasts-kept : (t : Segments) → Every n P t → Every n P (last_round by t)
    unfolding last_round
    lasts-kept t h = subst (λ (m : ℕ). Every n P (turns (last_turn by) m t)) (sym h.size) (keeps (Every n P) (last_turn by) n n t last-kept (omega arith) h)

    -- ---- a property that a better stem keeps too
    module _ (joined : (before seg1 seg2 : Segment) (i j : ℕ) → i < n → j < n → P i before → P i seg1 → P j seg2
        → facing by seg1 seg2 i j (gap_of before seg1 seg2) ≡ true
        → P i (linked_by seg1 (gap_of before seg1 seg2) j) × P j (linked_by seg2 (gap_of before seg1 seg2) i)) where
      -- ---- the pair round
      improved : (before seg1 seg2 : Segment) (i j : ℕ) → i < n → j < n → P i before → P i seg1 → P j seg2
          → facing by seg1 seg2 i j (gap_of before seg1 seg2) ≡ true
          → P i (improved_by seg1 (gap_of before seg1 seg2) j) × P j (improved_by seg2 (gap_of before seg1 seg2) i)
      unfolding improved_by
      improved before seg1 seg2 i j x y p q r e =
          let g = gap_of before seg1 seg2 in
          let z = joined before seg1 seg2 i j x y p q r e in
          (either_way (P i) (check_seg seg1 g) (linked_by seg1 g j) seg1 z.0 q, either_way (P j) (check_seg seg2 g) (linked_by seg2 g i) seg2 z.1 r)

      pair : (before : Segment) (i j : ℕ) (t : Segments) → i < n → j < n → P i before → Every n P t → Every n P (pair_turn by before i j t)
      unfolding pair_turn improve_pair
      pair before i j t x y p h =
          let seg1 = segment_at t i in
          let seg2 = segment_at t j in
          let g = gap_of before seg1 seg2 in
          cond_cases (Every n P) (facing by seg1 seg2 i j g) (put_segment (put_segment t i (improved_by seg1 g j)) j (improved_by seg2 g i)) t
          (λ (e : facing by seg1 seg2 i j g ≡ true).
          let z = improved before seg1 seg2 i j x y p (h.each i x) (h.each j y) e in
          put j (put_segment t i (improved_by seg1 g j)) (improved_by seg2 g i) (put i t (improved_by seg1 g j) h z.0) z.1)
          (λ (e : facing by seg1 seg2 i j g ≡ false). h)

      major : (dir : Direction) (i : ℕ) (t : Segments) → i < n → Every n P t → Every n P (major_turn dir by n i t)
      unfolding major_turn
      major dir i t x h =
          either_way (Every n P) (same (segment_at t i).dir dir) (turns (pair_turn by (segment_at t i) i) n t) t
          (keeps (Every n P) (pair_turn by (segment_at t i) i) n n t (λ j u y g. pair (segment_at t i) i j u x y (h.each i x) g) (omega arith) h) h

      pub pairs-kept : (dir : Direction) (t : Segments) → Every n P t → Every n P (pair_round dir by t)
      unfolding pair_round
      pairs-kept dir t h =
          subst (λ (m : ℕ). Every n P (turns (major_turn dir by m) m t)) (sym h.size)
          (keeps (Every n P) (major_turn dir by n) n n t (major dir) (omega arith) h)

      -- ---- the whole
      pub linked-kept : (dir : Direction) (t : Segments) → Every n P t → Every n P (linked dir by t)
      unfolding linked
      linked-kept dir t h = lasts-kept (serif_round by (pair_round dir by t)) (serifs-kept (pair_round dir by t) (pairs-kept dir t h))
