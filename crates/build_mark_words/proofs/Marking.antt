-- Segments learn their edges where their words stand: one turn of each loop, and that the walks are the groups.
use Rattle.std.specs.Prelude.{None, Some}
use mathlib.Core.Path.{◌≡◌, refl, sym, ap, subst, ◌∙◌}
use mathlib.Core.Bool.{true}
use mathlib.Core.List.{List, ◌∷◌}
use Prim.Native.Nat.{ℕ, zero, suc, ◌+◌, ◌/◌, ◌≤◌, ◌<◌}
use native.Mathlib.Numerals.{add-one}
use native.Mathlib.Omega.{arith}
use lib.IntN.{ℤ}
use lib.ListN.{length, get_or}
use Rattle.axis.specs.declared.segment.Segments.{Segments}
use Rattle.axis.specs.Limits.{most_segments}
use Rattle.axis.specs.Ring.{walk, ends}
use Rattle.axis.proofs.Rings.{Passes, walk-passes}
use Rattle.build_join.specs.Joining.{State, group}
use Rattle.build_join.specs.Walks.{next_in}
use Rattle.build_mark.specs.Marks.{clear, cleared, marks, group_marks}
use Rattle.build_mark.proofs.Marking.{clear_none, clear-more, clear-done, mark-end}
use Rattle.words.specs.Segment.{segment_size, segments_in, flat_segments}
use Rattle.words_segment.specs.Whole.{Whole, Became, ringing}
use Rattle.words_segment.proofs.Wholes.{segments-len}
use Rattle.words_segment.proofs.Became.{count_in, stays, became-then, became-as}
use Rattle.build_mark_words.specs.Marking.{RingsIn, walked, walked_marks, marked_by}

-- ---- what is forgotten
module _ (ws₀ : List ℤ) where
  abbrev T : Segments
  T = flat_segments ws₀

  pub forget-start : Whole ws₀ → Became (clear 0) ws₀ ws₀
  forget-start w = stays (clear 0) w (clear_none T)

  module _ {ws : List ℤ} {i : ℕ} (a : Became (clear i) ws₀ ws) where
    pub forget-next : {ws' : List ℤ} → Became (ringing i None None) ws ws' → Became (clear (i + 1)) ws₀ ws'
    forget-next b = became-as (clear-more T (clear i T) i _ refl refl) (became-then a b)

    pub forget-end : i ≤ segments_in ws₀ → segments_in ws₀ ≤ i → Became cleared ws₀ ws
    forget-end h g = became-as (clear-done T (clear i T) i (omega (arith, segments-len ws₀)) (omega (arith, segments-len ws₀)) refl) a

-- ---- the members of an edge
-- one of them
mark-step : (next : List ℕ) (edge ix : ℕ) (ms all : List ℕ) (t : Segments) → all ≡ ix ∷ ms
    → marks next edge ms (ringing ix (Some edge) (Some (get_or next ix 0)) t) ≡ marks next edge all t
unfolding marks
mark-step next edge ix ms all t e = ap (λ (l : List ℕ). marks next edge l t) (sym e)

-- at segment ix what is left of the walk gives the whole
pub record Left (next : List ℕ) (edge last first : ℕ) (ws₀ ws : List ℤ) (ix : ℕ) : Type 0 where
  pub whole : Whole ws
  pub long : length ws ≡ length ws₀
  pub below : ix < segments_in ws
  pub stops : ends (next_in next) (segments_in ws) last most_segments ix ≡ true
  pub rest : marks next edge (walk (next_in next) last most_segments ix) (flat_segments ws)
      ≡ marks next edge (walk (next_in next) last most_segments first) (flat_segments ws₀)

module _ (next : List ℕ) (edge last first : ℕ) (ws₀ : List ℤ) where
  pub left-start : Whole ws₀ → first < segments_in ws₀ → ends (next_in next) (segments_in ws₀) last most_segments first ≡ true
      → Left next edge last first ws₀ ws₀ first
  left-start w h e = record { whole = w; long = refl; below = h; stops = e; rest = refl }

  module _ {ws : List ℤ} {ix : ℕ} (p : Left next edge last first ws₀ ws ix) where
    -- one on the way
    pub left-passes : (ix ≡ last → ⊥) → Passes (next_in next) (segments_in ws) last most_segments ix
    left-passes n = walk-passes (next_in next) (segments_in ws) last most_segments ix n p.stops

    module _ {ws' : List ℤ} (b : Became (ringing ix (Some edge) (Some (get_or next ix 0))) ws ws') where
      pub left-next : (ix ≡ last → ⊥) → Left next edge last first ws₀ ws' (get_or next ix 0)
      left-next n =
          let q = left-passes n in
          record {
            whole = b.whole;
            long = b.long ∙ p.long;
            below = omega (arith, count_in b, q.below);
            stops = ap (λ (k : ℕ). ends (next_in next) k last most_segments (get_or next ix 0)) (count_in b) ∙ q.on;
            rest =
                ap (marks next edge (walk (next_in next) last most_segments (get_or next ix 0))) (b.table tt)
                ∙ mark-step next edge ix _ _ (flat_segments ws) q.step ∙ p.rest;
          }

      -- the last
      pub left_end : ix ≡ last → Became (marks next edge (walk (next_in next) last most_segments first)) ws₀ ws'
      left_end e =
          record { whole = b.whole; long = b.long ∙ p.long; table = λ d. b.table d ∙ mark-end next last edge ix (flat_segments ws) _ _ refl p.rest e }

-- ---- edge after edge
walked_none : (first last next : List ℕ) (t : Segments) → t ≡ walked_marks first last next 0 t
unfolding walked_marks
walked_none first last next t = refl

walked_more : (first last next : List ℕ) (k : ℕ) (t : Segments)
    → marks next k (walked first last next k) (walked_marks first last next k t) ≡ walked_marks first last next (k + 1) t
unfolding walked_marks
walked_more first last next k t = rw add-one

module _ (first last next : List ℕ) (ws₀ : List ℤ) where
  pub edges-start : Whole ws₀ → Became (walked_marks first last next 0) ws₀ ws₀
  edges-start w = stays (walked_marks first last next 0) w (walked_none first last next (flat_segments ws₀))

  pub edges-next : (k : ℕ) {ws ws' : List ℤ} → Became (walked_marks first last next k) ws₀ ws → Became (marks next k (walked first last next k)) ws ws'
      → Became (walked_marks first last next (k + 1)) ws₀ ws'
  edges-next k a b = became-as (walked_more first last next k (flat_segments ws₀)) (became-then a b)

-- all of them, once all is forgotten
pub edges-end : (first last next : List ℕ) {ws w1 w2 : List ℤ} {k count : ℕ} → Became cleared ws w1 → k ≤ count → count ≤ k
    → Became (walked_marks first last next k) w1 w2
    → Became (marked_by first last next count) ws w2
edges-end first last next {ws} {w1} {w2} {k} {count} a h g b =
    let e : k ≡ count = omega arith in
    became-as (ap (λ (n : ℕ). walked_marks first last next n (cleared (flat_segments ws))) e) (became-then a b)

-- the rings are those of as many segments
pub still-rings : (ws ws' : List ℤ) {first last next : List ℕ} {count : ℕ} → length ws' ≡ length ws → RingsIn (segments_in ws) first last next count
    → RingsIn (segments_in ws') first last next count
still-rings ws ws' {first} {last} {next} {count} e r = subst (λ (k : ℕ). RingsIn (k / segment_size) first last next count) (sym e) r

-- ---- the groups
walked-is : (first last next : List ℕ) (s : State) → next ≡ s.next → ((k : ℕ) → k < s.count → walked first last next k ≡ group s k)
    → (n : ℕ) → n ≤ s.count → (t : Segments) → walked_marks first last next n t ≡ group_marks s n t
unfolding walked_marks group_marks
walked-is first last next s e w zero h t = refl
walked-is first last next s e w (suc n) h t = rw (walked-is first last next s e w n (omega arith) t, w n (omega arith), e)

pub marked-is : (first last next : List ℕ) (s : State) → next ≡ s.next → ((k : ℕ) → k < s.count → walked first last next k ≡ group s k)
    → (t : Segments) → marked_by first last next s.count t ≡ group_marks s s.count (cleared t)
marked-is first last next s e w t = walked-is first last next s e w s.count (omega arith) (cleared t)
