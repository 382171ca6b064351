-- The turns of the last round, in place, and the three rounds in a row.
use Rattle.std.specs.Prelude.{None, Some}
use mathlib.Core.Path.{◌≡◌, refl, sym, ap, subst, ◌∙◌}
use mathlib.Core.Bool.{Bool, true, false, cond}
use mathlib.Core.List.{List}
use Prim.Native.Nat.{ℕ, ◌<◌}
use native.Mathlib.Omega.{arith}
use lib.IntN.{ℤ}
use Rattle.axis.specs.declared.kinds.Direction.{Direction}
use Rattle.axis.specs.declared.segment.Segment.{Segment}
use Rattle.axis.specs.declared.segment.Segments.{Segments}
use Rattle.axis.specs.Accepted.{Below}
use Rattle.axis.specs.Limits.{most_segments}
use Rattle.axis.specs.Link.{links_to}
use Rattle.axis.specs.Segment.{segment_at, put_segment}
use Rattle.link.specs.declared.thresholds.Thresholds.{Thresholds}
use Rattle.link.specs.Loops.{turns}
use Rattle.link.specs.Pairs.{serif_of, unlinked, stays_serif, settled}
use Rattle.link.specs.Rounds.{unlink, last_turn, pair_round, serif_round, last_round, linked}
use Rattle.link.proofs.Kept.{Every}
use Rattle.link.proofs.Turns.{last_none, last-go}
use Rattle.link.proofs.Within.{Within, last_within, all-within}
use Rattle.words.specs.Segment.{segments_in, flat_segments}
use Rattle.words_segment.specs.Whole.{Whole, Became, loosing, reduced}
use Rattle.words_segment.proofs.Became.{stays, became-then, became-as}
use Rattle.words_segment.proofs.Wholes.{segments-len}
use Rattle.link_words.specs.Linking.{Linkable}
use Rattle.link_words.proofs.Turns.{put_same, each_within, Turned, first_count}
use Rattle.link_words.proofs.Serifs.{link-read}

-- ---- one segment
module _ (by : Thresholds) (ws : List ℤ) (i : ℕ) (w : Whole ws) (seg1 : Segment) (q : seg1 ≡ reduced (segment_at (flat_segments ws) i)) where
  abbrev T : Segments
  T = flat_segments ws

  -- without a link
  pub settle-none : seg1.link ≡ None → Became (last_turn by i) ws ws
  settle-none e = stays (last_turn by i) w (last_none by i T (link-read ws i q e))

  module _ (k : ℕ) (e : seg1.link ≡ Some k) (seg2 : Segment) (p : seg2 ≡ reduced (segment_at T k)) (t : Bool) (c : t ≡ links_to seg2.link i) where
    abbrev A : Segment
    A = segment_at T i

    abbrev B : Segment
    B = segment_at T k

    back_is : (v : Bool) → t ≡ v → links_to B.link i ≡ v
    back_is v h = ap (λ (x : Segment). links_to x.link i) (sym p) ∙ sym c ∙ h

    settles : {s : Segment} {ws' : List ℤ} → s ≡ settled by A B i → Became (λ (x : Segments). put_segment x i s) ws ws' → Became (last_turn by i) ws ws'
    settles {s} f a = became-as (last-go by i k T s (link-read ws i q e) f) a

    -- whose link is returned
    pub settle-back : t ≡ true → Became (last_turn by i) ws ws
    unfolding settled
    settle-back h =
        settles (ap (λ (b : Bool). cond b A (cond (stays_serif by A B) (serif_of A B.link) (unlinked A))) (sym (back_is true h)))
        (stays (λ (x : Segments). put_segment x i A) w (sym (put_same T i)))

    module _ (h : t ≡ false) (u : Bool) (d : u ≡ stays_serif by seg1 seg2) where
      stays-is : (v : Bool) → u ≡ v → stays_serif by A B ≡ v
      unfolding stays_serif
      stays-is v g = (λ n. stays_serif by (sym q n) (sym p n)) ∙ sym d ∙ g

      -- that becomes a serif
      pub settle-serif : {ws' : List ℤ} → u ≡ true → Became (loosing i seg2.link) ws ws' → Became (last_turn by i) ws ws'
      unfolding settled
      settle-serif g a =
          settles (λ n. cond (sym (back_is false h) n) A (cond (sym (stays-is true g) n) (serif_of A B.link) (unlinked A)))
          (became-as (ap (λ (x : Segment). put_segment T i (serif_of A x.link)) p) a)

      -- or nothing
      pub settle-gone : {ws' : List ℤ} → u ≡ false → Became (unlink i) ws ws' → Became (last_turn by i) ws ws'
      unfolding settled unlink
      settle-gone g a = settles (λ n. cond (sym (back_is false h) n) A (cond (sym (stays-is false g) n) (serif_of A B.link) (unlinked A))) (became-as refl a)

-- a link that is read leads to a segment of the table
pub back_below : {ws : List ℤ} {k : ℕ} {seg2 : Segment} → Linkable ws → k < segments_in ws → seg2 ≡ reduced (segment_at (flat_segments ws) k)
    → Below most_segments seg2.link
back_below {ws} {k} {seg2} s h p =
    record { at = λ (m : ℕ) (e : seg2.link ≡ Some m). omega (arith, ((each_within ws s.within).each k h).link.at m (link-read ws k p e), s.whole.few) }

-- ---- the round
-- in the middle of it the words are sound
pub settle-sound : (by : Thresholds) {n i : ℕ} {ws₀ ws : List ℤ} → Linkable ws₀ → Turned (last_turn by) n ws₀ ws i → Linkable ws
settle-sound by {n} {i} {ws₀} {ws} s p =
    record {
      whole = p.whole;
      within = all-within n (flat_segments ws) p.few
          (last_within n by i (flat_segments ws₀) (flat_segments ws) every p.table p.below);
    }
  where
    every : Every n (Within n) (flat_segments ws₀)
    every = subst (λ (m : ℕ). Every m (Within m) (flat_segments ws₀)) (first_count (last_turn by) n ws₀ p) (each_within ws₀ s.within)

pub lasts-law : (by : Thresholds) {ws ws' : List ℤ} {n : ℕ} → n ≡ segments_in ws → Became (turns (last_turn by) n) ws ws' → Became (last_round by) ws ws'
unfolding last_round
lasts-law by {ws} e a = became-as (ap (λ (k : ℕ). turns (last_turn by) k (flat_segments ws)) (e ∙ sym (segments-len ws))) a

-- ---- the whole
pub rounds-law :
    (major : Direction) (by : Thresholds) {ws w1 w2 w3 : List ℤ} → Became (pair_round major by) ws w1 → Became (serif_round by) w1 w2
    → Became (last_round by) w2 w3
    → Became (linked major by) ws w3
unfolding linked
rounds-law major by a b c = became-then a (became-then b c)
