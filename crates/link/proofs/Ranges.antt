-- The numbers that the rounds form of segments: gaps of coordinates of 16 bits are within document 01's table, products of scores, lens and distances fit 32
-- bits, and the whole hands on segments within the table.
use mathlib.Core.Path.{◌≡◌, sym, subst}
use Prim.Native.Nat.{ℕ, ◌<◌}
use native.Mathlib.Omega.{arith}
use lib.IntN.{ℤ, pos, ◌-ℤ◌, ◌*ℤ◌}
use lib.Signed.{lt_z, ◌≤ℤ◌}
use mir.Syntax.{w32}
use mir.Val.{SFits}
use Rattle.signed.specs.Range.{Between}
use Rattle.signed.proofs.Signed.{signed, sub-law, fits-prod}
use Rattle.signed.proofs.Choices.{either_way}
use Rattle.axis.specs.declared.kinds.Direction.{Direction}
use Rattle.axis.specs.Link.{Link}
use Rattle.axis.specs.declared.segment.Segment.{Segment}
use Rattle.axis.specs.declared.segment.Segments.{Segments}
use Rattle.axis.specs.Accepted.{Below, SegmentsWithin}
use Rattle.axis.specs.Handed.{Short, TypedSegment, Typed}
use Rattle.axis.specs.Limits.{most_score}
use Rattle.link.specs.declared.gap.Gap.{Gap}
use Rattle.link.specs.declared.thresholds.Thresholds.{Thresholds}
use Rattle.link.specs.Pairs.{max_z, min_z, gap_of, linked_by, serif_of}
use Rattle.link.specs.Rounds.{linked}
use Rattle.link.specs.Steps.{Reach}
use Rattle.link.proofs.Kept.{Inside, linked-kept}
use Rattle.link.proofs.Within as Within

-- ---- coordinates of 16 bits
larger-short : (x y : ℤ) → Short x → Short y → Short (max_z x y)
unfolding max_z
larger-short x y f g = either_way Short (lt_z x y) y x g f

smaller-short : (x y : ℤ) → Short x → Short y → Short (min_z x y)
unfolding min_z
smaller-short x y f g = either_way Short (lt_z x y) x y f g

-- the difference of two
apart : (x y : ℤ) → Short x → Short y → Between most_score most_score (x -ℤ y)
apart x y f g = omega (arith, signed, sub-law x y)

-- ---- gaps
-- any gap is within the table, but for its sign
pub gap-reach : (before seg1 seg2 : Segment) → TypedSegment before → TypedSegment seg1 → TypedSegment seg2 → Reach (gap_of before seg1 seg2)
unfolding gap_of
gap-reach before seg1 seg2 p a b =
    record {
      dist = apart seg2.pos before.pos b.pos p.pos;
      len =
          apart _ _ (smaller-short seg1.max_coord seg2.max_coord a.high b.high)
          (larger-short seg1.min_coord seg2.min_coord a.low b.low);
    }

-- and so is one that equals it
pub reached : {g h : Gap} → g ≡ h → Reach h → (g ≡ h) × Reach g
reached e r = (e, subst Reach (sym e) r)

pub reach-of : {g h : Gap} → g ≡ h → Reach h → Reach g
reach-of e r = subst Reach (sym e) r

-- ---- products
-- a score, len or distance within the table, times 9 or less, fits 32 bits
pub product-fits : (z k : ℤ) → Between 0 most_score z → Between 0 9 k → SFits w32 (z *ℤ k)
product-fits z k h b = fits-prod h b tt

-- ---- the whole
-- a segment of n, within the table, with coordinates of 16 bits
record Sized (n i : ℕ) (s : Segment) : Type 0 where
  typed : TypedSegment s
  within : Within.Within n i s

module _ (n : ℕ) where
  inside : (i : ℕ) (s : Segment) → i < n → Sized n i s → Inside n i s
  inside i s x h = record { link = h.within.link; serif = h.within.serif }

  loosed : (i : ℕ) (s : Segment) (l : Link) → i < n → Below n l → Sized n i s → Sized n i (serif_of s l)
  loosed i s l x b h =
      record { typed = record { pos = h.typed.pos; low = h.typed.low; high = h.typed.high }; within = Within.loosed n i s l x b h.within }

  joined : (i j : ℕ) (s : Segment) (g : Gap) → j < n → Between 0 most_score g.dist → Between 0 most_score g.len → Sized n i s → Sized n i (linked_by s g j)
  joined i j s g y d l h =
      record { typed = record { pos = h.typed.pos; low = h.typed.low; high = h.typed.high }; within = Within.joined n i j s g y d l h.within }

-- accepted segments stay within the table, where the overlap asked for is not negative
pub linked-within : (dir : Direction) (by : Thresholds) (t : Segments) → pos 0 ≤ℤ by.len → Typed t → SegmentsWithin t → SegmentsWithin (linked dir by t)
linked-within dir by t o c w =
    let n = t.len in
    let start = Within.every-within t w in
    let e = linked-kept n (Sized n) (inside n) (loosed n) by
    (λ before seg1 seg2 i j x y p a b f.
    let g = gap_of before seg1 seg2 in
    let r = gap-reach before seg1 seg2 p.typed a.typed b.typed in
    let d = Within.stem-dist by seg1 seg2 i j g f r in
    let l = Within.stem-len by seg1 seg2 i j g f r o in
    (joined n i j seg1 g y d l a, joined n j i seg2 g x d l b))
    dir t (record { size = start.size; each = λ i x. record { typed = c.segment i; within = start.each i x } }) in
    Within.all-within n (linked dir by t) w.few (record { size = e.size; each = λ i x. (e.each i x).within })
