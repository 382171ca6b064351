-- The turns of the serif round, in place.
use Rattle.std.specs.Prelude.{None, Some}
use mathlib.Core.Path.{◌≡◌, refl, sym, ap, subst, ◌∙◌}
use mathlib.Core.Bool.{Bool, true, false, not, cond, ◌&&◌}
use mathlib.Core.List.{List}
use Prim.Native.Nat.{ℕ, ◌+◌, ◌-◌, ◌≤◌, ◌<◌}
use native.Mathlib.Omega.{arith}
use lib.Dec.{eqb}
use lib.ListN.{length}
use lib.IntN.{ℤ}
use lib.Signed.{le_z}
use Rattle.axis.specs.Link.{Link}
use Rattle.axis.specs.declared.segment.Segment.{Segment}
use Rattle.axis.specs.declared.segment.Segments.{Segments}
use Rattle.axis.specs.Limits.{most_segments}
use Rattle.axis.specs.Link.{links_to}
use Rattle.axis.specs.Segment.{segment_at, put_segment}
use Rattle.link.specs.declared.thresholds.Thresholds.{Thresholds}
use Rattle.link.specs.Loops.{turns, till}
use Rattle.link.specs.Pairs.{serif_of, near_stem, encloses, much_longer, rewritten}
use Rattle.link.specs.Rounds.{rewrite_turn, rewrite_all, unlink, held_to, given_up_to, hold_turn, given_up, hold, serif_turn, serif_round}
use Rattle.link.proofs.Handing.{after-serifs}
use Rattle.link.proofs.Holding as H
use Rattle.link.proofs.Kept.{Every}
use Rattle.link.proofs.Loops.{till-start, till-on, till-last, till-end}
use Rattle.link.proofs.Turns.{serif-none, serif-skip, serif-go}
use Rattle.link.proofs.Within.{Within, hold-within, serif_within, all-within, to_below}
use Rattle.words.specs.Segment.{segments_in, flat_segments}
use Rattle.words_segment.specs.Whole.{Whole, Became, loosing, reduced}
use Rattle.words_segment.proofs.Became.{count_in, stays, became-then, became-as}
use Rattle.words_segment.proofs.Wholes.{segments-len}
use Rattle.link_words.specs.Linking.{Linkable, Made, Held}
use Rattle.link_words.proofs.Turns.{put_same, each_within, made-within, Turned, first_count}

-- ---- a link
-- that of a segment of the table, from what is read
pub link-read : (ws : List ℤ) (i : ℕ) {seg : Segment} {l : Link} → seg ≡ reduced (segment_at (flat_segments ws) i) → seg.link ≡ l
    → (segment_at (flat_segments ws) i).link ≡ l
link-read ws i q e = sym (ap (λ (x : Segment). x.link) q) ∙ e

-- it leads to a segment
pub link-leads : {ws : List ℤ} {i k : ℕ} → Linkable ws → i < segments_in ws → (segment_at (flat_segments ws) i).link ≡ Some k → k < segments_in ws
link-leads {ws} {i} {k} s h e = to_below (segments_in ws) i k (flat_segments ws) (each_within ws s.within) h e

-- ---- rewriting
module _ (ws : List ℤ) (j l m i x : ℕ) (w : Whole ws) (seg : Segment) (q : seg ≡ reduced (segment_at (flat_segments ws) x)) (t : Bool)
    (e : t ≡ links_to seg.link j) where
  abbrev T : Segments
  T = flat_segments ws

  abbrev S : Segment
  S = segment_at T x

  links-is : (k : ℕ) (u v : Bool) → u ≡ links_to seg.link k → u ≡ v → links_to S.link k ≡ v
  links-is k u v a b = sym (ap (λ (y : Segment). links_to y.link k) q) ∙ sym a ∙ b

  -- of a link to the one
  pub rewrite-first : {ws' : List ℤ} → t ≡ true → Became (loosing x (Some l)) ws ws' → Became (rewrite_turn j l m i x) ws ws'
  unfolding rewrite_turn rewritten
  rewrite-first h a =
      became-as (ap (λ (b : Bool). put_segment T x (cond b (serif_of S (Some l)) (cond (links_to S.link m) (serif_of S (Some i)) S)))
      (sym (links-is j t true e h))) a

  module _ (h : t ≡ false) (u : Bool) (f : u ≡ links_to seg.link m) where
    -- of a link to the other one
    pub rewrite-second : {ws' : List ℤ} → u ≡ true → Became (loosing x (Some i)) ws ws' → Became (rewrite_turn j l m i x) ws ws'
    unfolding rewrite_turn rewritten
    rewrite-second g a =
        became-as
        (λ n. put_segment T x (cond (sym (links-is j t false e h) n) (serif_of S (Some l))
        (cond (sym (links-is m u true f g) n) (serif_of S (Some i)) S))) a

    -- of another one
    pub rewrite-none : u ≡ false → Became (rewrite_turn j l m i x) ws ws
    unfolding rewrite_turn rewritten
    rewrite-none g =
        stays (rewrite_turn j l m i x) w
        (sym (put_same T x)
        ∙ (λ n. put_segment T x (cond (sym (links-is j t false e h) n) (serif_of S (Some l))
        (cond (sym (links-is m u false f g) n) (serif_of S (Some i)) S))))

-- all of them
pub rewrites-law : (j l m i : ℕ) {ws ws' : List ℤ} {n : ℕ} → n ≡ segments_in ws → Became (turns (rewrite_turn j l m i) n) ws ws'
    → Became (rewrite_all j l m i) ws ws'
unfolding rewrite_all
rewrites-law j l m i {ws} e a = became-as (ap (λ (k : ℕ). turns (rewrite_turn j l m i) k (flat_segments ws)) (e ∙ sym (segments-len ws))) a

-- ---- a turn of the inner loop
module _ (a b : Segment) (i k j : ℕ) (ws : List ℤ) (s : Linkable ws) (x : i < segments_in ws) (y : k < segments_in ws) where
  abbrev U : Segments
  U = flat_segments ws

  held_by : {ws' : List ℤ} {r : Bool} → Whole ws' → length ws' ≡ length ws → H.Made a b i k j (segment_at U j).link U (flat_segments ws') r
      → Held a b i k j r ws ws'
  unfolding hold_turn given_up
  held_by {ws'} w l m = record {
    made = made-within s.whole (hold-within (segments_in ws) a b i k j U x y) s.within (record { whole = w; long = l; table = λ d. m.table });
    last = m.ends;
  }

  module _ (seg2 : Segment) (q : seg2 ≡ reduced (segment_at U j)) where
    -- a segment that is behind the first, or the first itself, whatever its link
    pub hold-behind : (t : Bool) → t ≡ (le_z seg2.pos a.pos && not (eqb i j)) → t ≡ false → Held a b i k j false ws ws
    unfolding encloses
    hold-behind t c h = by (segment_at U j).link refl
      where
        inside : (le_z (segment_at U j).pos a.pos && not (eqb i j)) ≡ false
        inside = sym (ap (λ (x : Segment). le_z x.pos a.pos && not (eqb i j)) q) ∙ sym c ∙ h

        by : (l : Link) → (segment_at U j).link ≡ l → Held a b i k j false ws ws
        by None e = held_by s.whole refl (H.made_none a b i k j (segment_at U j).link U e)
        by (Some m) e = held_by s.whole refl (H.made-skip a b i k j m (segment_at U j).link U e (rw inside))

    pub hold-none : seg2.link ≡ None → Held a b i k j false ws ws
    hold-none e = held_by s.whole refl (H.made_none a b i k j (segment_at U j).link U (link-read ws j q e))

    module _ (m : ℕ) (e : seg2.link ≡ Some m) (link2 : Segment) (p : link2 ≡ reduced (segment_at U m)) (t : Bool)
        (c : t ≡ encloses a b seg2 link2 i j) where
      encloses-is : (v : Bool) → t ≡ v → encloses a b (segment_at U j) (segment_at U m) i j ≡ v
      unfolding encloses
      encloses-is v h = (λ n. encloses a b (sym q n) (sym p n) i j) ∙ sym c ∙ h

      pub hold-skip : t ≡ false → Held a b i k j false ws ws
      hold-skip h = held_by s.whole refl (H.made-skip a b i k j m (segment_at U j).link U (link-read ws j q e) (encloses-is false h))

      module _ (h : t ≡ true) (u : Bool) (d : u ≡ much_longer a seg2) where
        longer-is : (v : Bool) → u ≡ v → much_longer a (segment_at U j) ≡ v
        unfolding much_longer
        longer-is v g = ap (much_longer a) (sym q) ∙ sym d ∙ g

        pub hold-serifs : {ws' : List ℤ} → u ≡ true → Became (rewrite_all j k m i) ws ws' → Held a b i k j false ws ws'
        hold-serifs g z =
            held_by z.whole z.long (H.made-serifs a b i k j m (segment_at U j).link U _ (link-read ws j q e) (encloses-is true h) (longer-is true g)
            (z.table tt))

        pub hold-last : {w1 w2 : List ℤ} → u ≡ false → Became (unlink i) ws w1 → Became (unlink k) w1 w2 → Held a b i k j true ws w2
        hold-last g z z' =
            let both = became-then z z' in
            held_by both.whole both.long (H.made-last a b i k j m (segment_at U j).link U _ (link-read ws j q e) (encloses-is true h)
            (longer-is false g) (both.table tt))

-- ---- the inner loop
-- before the turn j, the rest of the loop makes of the words what the whole makes of the first ones
pub record Holding (a b : Segment) (i k n : ℕ) (ws₀ ws : List ℤ) (j : ℕ) : Type 0 where
  pub below : j ≤ n
  pub few : n ≤ most_segments
  pub count : segments_in ws ≡ n
  pub long : length ws ≡ length ws₀
  pub sound : Linkable ws
  pub rest : till (given_up a b i k) (hold_turn a b i k) (n - j) j (flat_segments ws) ≡ hold a b i k n (flat_segments ws₀)

module _ (a b : Segment) (i k n : ℕ) (ws₀ : List ℤ) where
  pub holds-start : Linkable ws₀ → n ≡ segments_in ws₀ → Holding a b i k n ws₀ ws₀ 0
  unfolding hold
  holds-start s e = record {
    below = omega arith;
    few = omega (arith, e, s.whole.few);
    count = sym e;
    long = refl;
    sound = s;
    rest = till-start (given_up a b i k) (hold_turn a b i k) n (flat_segments ws₀);
  }

  module _ {ws : List ℤ} {j : ℕ} (p : Holding a b i k n ws₀ ws j) where
    pub holds-next : {ws' : List ℤ} {r : Bool} → j < n → Held a b i k j r ws ws' → r ≡ false → Holding a b i k n ws₀ ws' (j + 1)
    holds-next {ws'} h d e =
        let z = d.made.became in
        record {
          below = omega arith;
          few = p.few;
          count = count_in z ∙ p.count;
          long = z.long ∙ p.long;
          sound = record { whole = z.whole; within = d.made.within };
          rest =
              till-on (given_up a b i k) (hold_turn a b i k) n j (flat_segments ws) (flat_segments ws') (hold a b i k n (flat_segments ws₀)) h (d.last ∙ e)
              (z.table tt) p.rest;
        }

    pub holds-break : {ws' : List ℤ} {r : Bool} → j < n → Held a b i k j r ws ws' → r ≡ true → Became (hold a b i k n) ws₀ ws'
    holds-break {ws'} h d e =
        let z = d.made.became in
        record {
          whole = z.whole;
          long = z.long ∙ p.long;
          table =
              λ u. till-last (given_up a b i k) (hold_turn a b i k) n j (flat_segments ws) (flat_segments ws') (hold a b i k n (flat_segments ws₀)) h (d.last ∙ e)
              (z.table tt) p.rest;
        }

    pub holds-end : n ≤ j → Became (hold a b i k n) ws₀ ws
    holds-end h = record {
      whole = p.sound.whole;
      long = p.long;
      table = λ u. till-end (given_up a b i k) (hold_turn a b i k) n j (flat_segments ws) (hold a b i k n (flat_segments ws₀)) h p.rest;
    }

-- ---- a segment of the outer loop
-- what is read of the first segment and of its link is all that the inner loop reads of them
held-reduced : (a b : Segment) (i k j : ℕ) (l : Link) (t : Segments) → held_to (reduced a) (reduced b) i k j l t ≡ held_to a b i k j l t
unfolding held_to encloses much_longer
held-reduced a b i k j None t = refl
held-reduced a b i k j (Some m) t = refl

given-reduced : (a b : Segment) (i k j : ℕ) (l : Link) (t : Segments) → given_up_to (reduced a) (reduced b) i k j l t ≡ given_up_to a b i k j l t
unfolding given_up_to encloses much_longer
given-reduced a b i k j None t = refl
given-reduced a b i k j (Some m) t = refl

hold-reduced : (a b : Segment) (i k n : ℕ) (t : Segments) → hold (reduced a) (reduced b) i k n t ≡ hold a b i k n t
unfolding hold hold_turn given_up
hold-reduced a b i k n t =
    λ z. till (λ (j : ℕ) (u : Segments). given-reduced a b i k j (segment_at u j).link u z)
    (λ (j : ℕ) (u : Segments). held-reduced a b i k j (segment_at u j).link u z) n 0 t

module _ (by : Thresholds) (ws : List ℤ) (i : ℕ) (w : Whole ws) (seg1 : Segment) (q : seg1 ≡ reduced (segment_at (flat_segments ws) i)) where
  abbrev Old : Segments
  Old = flat_segments ws

  pub near_none : seg1.link ≡ None → Became (serif_turn by (segments_in ws) i) ws ws
  near_none e = stays (serif_turn by (segments_in ws) i) w (serif-none by (segments_in ws) i Old (link-read ws i q e))

  module _ (k : ℕ) (e : seg1.link ≡ Some k) (link1 : Segment) (p : link1 ≡ reduced (segment_at Old k)) (t : Bool) (c : t ≡ near_stem by seg1 link1 i) where
    near-is : (v : Bool) → t ≡ v → near_stem by (segment_at Old i) (segment_at Old k) i ≡ v
    unfolding near_stem
    near-is v h = (λ n. near_stem by (sym q n) (sym p n) i) ∙ sym c ∙ h

    pub near-skip : t ≡ false → Became (serif_turn by (segments_in ws) i) ws ws
    near-skip h = stays (serif_turn by (segments_in ws) i) w (serif-skip by (segments_in ws) i k Old (link-read ws i q e) (near-is false h))

    pub near-law : {ws' : List ℤ} → t ≡ true → Became (hold seg1 link1 i k (segments_in ws)) ws ws' → Became (serif_turn by (segments_in ws) i) ws ws'
    near-law h a =
        became-as
        (serif-go by (segments_in ws) i k Old _ (link-read ws i q e) (near-is true h)
        ((λ n. hold (q n) (p n) i k (segments_in ws) Old) ∙ hold-reduced (segment_at Old i) (segment_at Old k) i k (segments_in ws) Old)) a

-- ---- the round
-- in the middle of it the words are sound
pub near-sound : (by : Thresholds) {n i : ℕ} {ws₀ ws : List ℤ} → Linkable ws₀ → Turned (serif_turn by n) n ws₀ ws i → Linkable ws
near-sound by {n} {i} {ws₀} {ws} s p =
    record {
      whole = p.whole;
      within = all-within n (flat_segments ws) p.few
          (serif_within n by i (flat_segments ws₀) (flat_segments ws) every p.table p.below);
    }
  where
    every : Every n (Within n) (flat_segments ws₀)
    every = subst (λ (m : ℕ). Every m (Within m) (flat_segments ws₀)) (first_count (serif_turn by n) n ws₀ p) (each_within ws₀ s.within)

pub serifs-law : (by : Thresholds) {ws ws' : List ℤ} {n : ℕ} → Linkable ws → n ≡ segments_in ws → Became (turns (serif_turn by n) n) ws ws'
    → Made (serif_round by) ws ws'
unfolding serif_round
serifs-law by {ws} {ws'} s e a = record { became = all; within = after-serifs by (flat_segments ws) (flat_segments ws') s.within (all.table tt) }
  where
    all : Became (serif_round by) ws ws'
    all = became-as (ap (λ (k : ℕ). turns (serif_turn by k) k (flat_segments ws)) (e ∙ sym (segments-len ws))) a
