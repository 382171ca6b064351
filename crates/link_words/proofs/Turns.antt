-- Loops over the words of segments, each turn of which makes something of their table.
use mathlib.Core.Path.{◌≡◌, refl, sym, ap, subst, ◌∙◌}
use mathlib.Core.List.{List}
use Prim.Native.Nat.{ℕ, ◌+◌, ◌/◌, ◌≤◌, ◌<◌}
use native.Mathlib.Omega.{arith}
use lib.ListN.{length}
use lib.Seq.{set-get_or}
use lib.IntN.{ℤ}
use Rattle.axis.specs.declared.segment.Segment.{Segment}
use Rattle.axis.specs.declared.segment.Segments.{Segments}
use Rattle.axis.specs.Accepted.{SegmentsWithin}
use Rattle.axis.specs.Limits.{most_segments}
use Rattle.axis.specs.Segment.{empty_segment, segment_at, put_segment}
use Rattle.link.specs.Loops.{turns}
use Rattle.link.proofs.Kept.{Every}
use Rattle.link.proofs.Loops.{none, turn, end}
use Rattle.link.proofs.Within.{Within, every-within, all-within}
use Rattle.words.specs.Segment.{segment_size, segments_in, segments_run, flat_segments}
use Rattle.words_segment.specs.Whole.{Whole, Became}
use Rattle.words_segment.proofs.Became.{count_in}
use Rattle.link_words.specs.Linking.{Made}

-- a segment in its own place
pub put_same : (t : Segments) (i : ℕ) → put_segment t i (segment_at t i) ≡ t
put_same t i = ap (λ (ss : List Segment). record { segments = ss; len = t.len }) (set-get_or t.segments i empty_segment)

-- ---- a table within its limits
-- each of its segments is
pub each_within : (ws : List ℤ) → SegmentsWithin (flat_segments ws) → Every (segments_in ws) (Within (segments_in ws)) (flat_segments ws)
unfolding flat_segments segments_run
each_within ws w = every-within (flat_segments ws) w

-- and so is what a turn that keeps them makes of it
pub made-within :
    {f : Segments → Segments} {ws ws' : List ℤ} → Whole ws
    → (Every (segments_in ws) (Within (segments_in ws)) (flat_segments ws) → Every (segments_in ws) (Within (segments_in ws)) (f (flat_segments ws)))
    → SegmentsWithin (flat_segments ws) → Became f ws ws' → Made f ws ws'
made-within {f} {ws} {ws'} whole keeps w a = record {
  became = a;
  within = subst SegmentsWithin (sym (a.table tt)) (all-within (segments_in ws) (f (flat_segments ws)) whole.few (keeps (each_within ws w)));
}

-- ---- rounds
-- the first i of n turns
pub record Turned (f : ℕ → Segments → Segments) (n : ℕ) (ws₀ ws : List ℤ) (i : ℕ) : Type 0 where
  pub below : i ≤ n
  pub few : n ≤ most_segments
  pub count : segments_in ws ≡ n
  pub long : length ws ≡ length ws₀
  pub whole : Whole ws
  pub table : flat_segments ws ≡ turns f i (flat_segments ws₀)

module _ (f : ℕ → Segments → Segments) (n : ℕ) (ws₀ : List ℤ) where
  pub turns-start : Whole ws₀ → n ≡ segments_in ws₀ → Turned f n ws₀ ws₀ 0
  turns-start w e = record { below = omega arith; few = omega (arith, e, w.few); count = sym e; long = refl; whole = w; table = none f (flat_segments ws₀) }

  module _ {ws : List ℤ} {i : ℕ} (p : Turned f n ws₀ ws i) where
    -- one more
    pub turns_next : {ws' : List ℤ} → i < n → Became (f i) ws ws' → Turned f n ws₀ ws' (i + 1)
    turns_next {ws'} h a = record {
      below = omega arith;
      few = p.few;
      count = count_in a ∙ p.count;
      long = a.long ∙ p.long;
      whole = a.whole;
      table = turn f i (flat_segments ws₀) (flat_segments ws) (flat_segments ws') p.table (a.table tt);
    }

    -- all of them
    pub turns-end : n ≤ i → Became (turns f n) ws₀ ws
    turns-end h = record { whole = p.whole; long = p.long; table = λ d. end f i n (flat_segments ws₀) (flat_segments ws) p.below h p.table }

    -- their number is that of the first words
    pub first_count : segments_in ws₀ ≡ n
    first_count = sym (ap (λ (k : ℕ). k / segment_size) p.long) ∙ p.count

-- one more of turns that are told how many segments there are
pub turns-counted :
    (g : ℕ → ℕ → Segments → Segments) {n i : ℕ} {ws₀ ws ws' : List ℤ} → Turned (g n) n ws₀ ws i → i < n → Became (g (segments_in ws) i) ws ws'
    → Turned (g n) n ws₀ ws' (i + 1)
turns-counted g {n} {i} {ws₀} {ws} {ws'} p h a = turns_next (g n) n ws₀ p h (subst (λ (k : ℕ). Became (g k i) ws ws') p.count a)
