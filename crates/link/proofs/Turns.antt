-- One turn of each loop, as the code takes it.
use Rattle.std.specs.Prelude.{None, Some}
use mathlib.Core.Path.{◌≡◌}
use mathlib.Core.Bool.{true, false}
use Prim.Native.Nat.{ℕ}
use Rattle.axis.specs.declared.kinds.Direction.{Direction}
use Rattle.axis.specs.Link.{Link}
use Rattle.axis.specs.declared.segment.Segment.{Segment}
use Rattle.axis.specs.declared.segment.Segments.{Segments}
use Rattle.axis.specs.Direction.{same}
use Rattle.axis.specs.Segment.{segment_at, put_segment}
use Rattle.link.specs.declared.gap.Gap.{Gap}
use Rattle.link.specs.declared.thresholds.Thresholds.{Thresholds}
use Rattle.link.specs.Loops.{turns}
use Rattle.link.specs.Pairs.{gap_of, facing, improved_by, near_stem, rewritten, settled}
use Rattle.link.specs.Rounds.{improve_pair, pair_turn, major_turn, rewrite_turn, hold, serif_to, serif_turn, last_to, last_turn}

-- ---- the pair round
module _ (by : Thresholds) (before : Segment) (i j : ℕ) (t : Segments) (g : Gap) (e : g ≡ gap_of before (segment_at t i) (segment_at t j)) where
  pub pair-skip : facing by (segment_at t i) (segment_at t j) i j g ≡ false → t ≡ pair_turn by before i j t
  unfolding pair_turn
  pair-skip h = let k = rw e at h in rw k

  pub pair-go : (a b : Segment) → facing by (segment_at t i) (segment_at t j) i j g ≡ true → a ≡ improved_by (segment_at t i) g j
      → b ≡ improved_by (segment_at t j) g i
      → put_segment (put_segment t i a) j b ≡ pair_turn by before i j t
  unfolding pair_turn improve_pair
  pair-go a b h x y = let k = rw e at h in rw (k, x, y, e)

module _ (dir : Direction) (by : Thresholds) (n i : ℕ) (t : Segments) where
  pub major-skip : same (segment_at t i).dir dir ≡ false → t ≡ major_turn dir by n i t
  unfolding major_turn
  major-skip h = rw h

  pub major-go : (u : Segments) → same (segment_at t i).dir dir ≡ true → u ≡ turns (pair_turn by (segment_at t i) i) n t → u ≡ major_turn dir by n i t
  unfolding major_turn
  major-go u h e = rw h e

-- ---- the serif round
pub rewrite-go : (j l m i x : ℕ) (t : Segments) (s : Segment) → s ≡ rewritten (segment_at t x) j l m i → put_segment t x s ≡ rewrite_turn j l m i x t
unfolding rewrite_turn
rewrite-go j l m i x t s e = rw e

module _ (by : Thresholds) (n i : ℕ) where
  to_none : (l : Link) (t : Segments) → l ≡ None → t ≡ serif_to by n i l t
  unfolding serif_to
  to_none l t e = rw e

  to-skip : (k : ℕ) (l : Link) (t : Segments) → l ≡ Some k → near_stem by (segment_at t i) (segment_at t k) i ≡ false → t ≡ serif_to by n i l t
  unfolding serif_to
  to-skip k l t e h = rw (e, h)

  to-go : (k : ℕ) (l : Link) (t u : Segments) → l ≡ Some k → near_stem by (segment_at t i) (segment_at t k) i ≡ true
      → u ≡ hold (segment_at t i) (segment_at t k) i k n t → u ≡ serif_to by n i l t
  unfolding serif_to
  to-go k l t u e h p = rw (e, h) p

  pub serif-none : (t : Segments) → (segment_at t i).link ≡ None → t ≡ serif_turn by n i t
  unfolding serif_turn
  serif-none t e = to_none (segment_at t i).link t e

  pub serif-skip : (k : ℕ) (t : Segments) → (segment_at t i).link ≡ Some k → near_stem by (segment_at t i) (segment_at t k) i ≡ false → t ≡ serif_turn by n i t
  unfolding serif_turn
  serif-skip k t e h = to-skip k (segment_at t i).link t e h

  pub serif-go : (k : ℕ) (t u : Segments) → (segment_at t i).link ≡ Some k → near_stem by (segment_at t i) (segment_at t k) i ≡ true
      → u ≡ hold (segment_at t i) (segment_at t k) i k n t
      → u ≡ serif_turn by n i t
  unfolding serif_turn
  serif-go k t u e h p = to-go k (segment_at t i).link t u e h p

-- ---- the last round
module _ (by : Thresholds) (i : ℕ) where
  last-of-none : (l : Link) (t : Segments) → l ≡ None → t ≡ last_to by i l t
  unfolding last_to
  last-of-none l t e = rw e

  last-of-to : (k : ℕ) (l : Link) (t : Segments) (s : Segment) → l ≡ Some k → s ≡ settled by (segment_at t i) (segment_at t k) i
      → put_segment t i s ≡ last_to by i l t
  unfolding last_to
  last-of-to k l t s e p = rw (e, p)

  pub last_none : (t : Segments) → (segment_at t i).link ≡ None → t ≡ last_turn by i t
  unfolding last_turn
  last_none t e = last-of-none (segment_at t i).link t e

  pub last-go : (k : ℕ) (t : Segments) (s : Segment) → (segment_at t i).link ≡ Some k → s ≡ settled by (segment_at t i) (segment_at t k) i
      → put_segment t i s ≡ last_turn by i t
  unfolding last_turn
  last-go k t s e p = last-of-to k (segment_at t i).link t s e p
