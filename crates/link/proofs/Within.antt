-- Each link and serif stays below the count, and each score and len within document 01's table, through every turn of the rounds.
use Rattle.std.specs.Prelude.{Some}
use mathlib.Core.Path.{◌≡◌, refl, sym, subst}
use mathlib.Core.Bool.{true, not}
use Prim.Native.Nat.{ℕ, ◌<◌, ◌≤◌}
use native.Mathlib.Omega.{arith}
use lib.Dec.{eqb}
use lib.IntN.{pos}
use lib.Signed.{le_z, ◌≤ℤ◌}
use Rattle.signed.specs.Range.{Between}
use Rattle.signed.proofs.Signed.{signed}
use Rattle.signed.proofs.Choices.{either_way}
use Rattle.axis.specs.Link.{Link}
use Rattle.axis.specs.declared.segment.Segment.{Segment}
use Rattle.axis.specs.declared.segment.Segments.{Segments}
use Rattle.axis.specs.Accepted.{Below, SegmentWithin, SegmentsWithin}
use Rattle.axis.specs.Direction.{opposite}
use Rattle.axis.specs.Limits.{most_segments, most_score}
use Rattle.axis.specs.Segment.{segment_at, put_segment}
use Rattle.axis.proofs.Acceptance.{below_none, below-to}
use Rattle.refusals.proofs.Tests.{and_first, and_second}
use Rattle.link.specs.declared.gap.Gap.{Gap}
use Rattle.link.specs.declared.thresholds.Thresholds.{Thresholds}
use Rattle.link.specs.Loops.{turns}
use Rattle.link.specs.Pairs.{facing, check_seg, linked_by, improved_by, serif_of}
use Rattle.link.specs.Rounds.{hold_turn, serif_turn, serif_round, last_turn}
use Rattle.link.specs.Steps.{Reach}
use Rattle.link.proofs.Kept as Kept
use Rattle.link.proofs.Kept.{Every, Inside}
use Rattle.link.proofs.Loops.{keeps}

-- ---- a gap by which two segments can be a stem: both numbers are within the table
module _ (by : Thresholds) (seg1 seg2 : Segment) (i j : ℕ) (g : Gap) (h : facing by seg1 seg2 i j g ≡ true) (r : Reach g) where
  ahead : le_z (pos 0) g.dist ≡ true
  unfolding facing
  ahead = and_first _ _ (and_second (opposite seg1.dir seg2.dir) _ (and_second (not (eqb i j)) _ h))

  enough : le_z by.len g.len ≡ true
  unfolding facing
  enough = and_second (le_z (pos 0) g.dist) _ (and_second (opposite seg1.dir seg2.dir) _ (and_second (not (eqb i j)) _ h))

  pub stem-dist : Between 0 most_score g.dist
  stem-dist = let d = ahead in omega (arith, signed, r.dist)

  pub stem-len : pos 0 ≤ℤ by.len → Between 0 most_score g.len
  stem-len o = let d = enough in omega (arith, signed, r.len)

-- ---- one segment
-- the segment, whatever its place, is within the table, and its indices are below n
abbrev pub Within : ℕ → ℕ → Segment → Type 0
Within n i s = SegmentWithin n s

module _ (n : ℕ) where
  inside : (i : ℕ) (s : Segment) → i < n → Within n i s → Inside n i s
  inside i s x h = record { link = h.link; serif = h.serif }

  -- losing the link
  pub loosed : (i : ℕ) (s : Segment) (l : Link) → i < n → Below n l → Within n i s → Within n i (serif_of s l)
  loosed i s l x b h = record { score = h.score; len = h.len; link = below_none n; serif = b }

  -- a better stem
  pub joined : (i k : ℕ) (s : Segment) (g : Gap) → k < n → Between 0 most_score g.dist → Between 0 most_score g.len → Within n i s
      → Within n i (linked_by s g k)
  joined i k s g y d l h = record { score = d; len = l; link = below-to n k y; serif = h.serif }

  -- ---- the turns of the rounds
  pub hold-within : (seg1 link1 : Segment) (i l j : ℕ) (t : Segments) → i < n → l < n → Every n (Within n) t → Every n (Within n) (hold_turn seg1 link1 i l j t)
  hold-within = Kept.hold-kept n (Within n) inside loosed

  module _ (by : Thresholds) where
    -- a pair that takes a stem where it is better
    pub pair-within : (i j : ℕ) (t : Segments) (g : Gap) (a b : Segment) → i < n → j < n → pos 0 ≤ℤ by.len → Every n (Within n) t → Reach g
        → facing by (segment_at t i) (segment_at t j) i j g ≡ true
        → a ≡ improved_by (segment_at t i) g j → b ≡ improved_by (segment_at t j) g i → Every n (Within n) (put_segment (put_segment t i a) j b)
    unfolding improved_by
    pair-within i j t g a b x y o h r f p q =
        let seg1 = segment_at t i in
        let seg2 = segment_at t j in
        let d = stem-dist by seg1 seg2 i j g f r in
        let l = stem-len by seg1 seg2 i j g f r o in
        let u = either_way (Within n i) (check_seg seg1 g) (linked_by seg1 g j) seg1 (joined i j seg1 g y d l (h.each i x)) (h.each i x) in
        let v = either_way (Within n j) (check_seg seg2 g) (linked_by seg2 g i) seg2 (joined j i seg2 g x d l (h.each j y)) (h.each j y) in
        put j (put_segment t i a) b (put i t a h (subst (Within n i) (sym p) u)) (subst (Within n j) (sym q) v)
      where
        put : (i : ℕ) (t : Segments) (s : Segment) → Every n (Within n) t → Within n i s → Every n (Within n) (put_segment t i s)
        put = Kept.put n (Within n) inside loosed

    pub serifs-within : (t : Segments) → Every n (Within n) t → Every n (Within n) (serif_round by t)
    serifs-within = Kept.serifs-kept n (Within n) inside loosed by

    -- the table in the middle of the serif round
    pub serif_within : (i : ℕ) (t u : Segments) → Every n (Within n) t → u ≡ turns (serif_turn by n) i t → i ≤ n → Every n (Within n) u
    serif_within i t u h e p = rw e (keeps (Every n (Within n)) (serif_turn by n) n i t (Kept.serif-kept n (Within n) inside loosed by) p h)

    -- the table in the middle of the last round
    pub last_within : (i : ℕ) (t u : Segments) → Every n (Within n) t → u ≡ turns (last_turn by) i t → i ≤ n → Every n (Within n) u
    last_within i t u h e p = rw e (keeps (Every n (Within n)) (last_turn by) n i t (Kept.last-kept n (Within n) inside loosed by) p h)

  -- where a link leads
  pub to_below : (i k : ℕ) (t : Segments) → Every n (Within n) t → i < n → (segment_at t i).link ≡ Some k → k < n
  to_below i k t h x e = (h.each i x).link.at k e

-- ---- a whole table, as a call accepts it, and as the loops have it
pub every-within : (t : Segments) → SegmentsWithin t → Every t.len (Within t.len) t
every-within t w = record { size = refl; each = w.segment }

pub all-within : (n : ℕ) (t : Segments) → n ≤ most_segments → Every n (Within n) t → SegmentsWithin t
all-within n t few h =
    record {
      few = omega (arith, h.size, few);
      segment = λ (i : ℕ) (x : i < t.len). subst (λ (m : ℕ). SegmentWithin m (segment_at t i)) (sym h.size) (h.each i (omega (arith, h.size)));
    }
