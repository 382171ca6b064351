-- The positions of segments at the scale, tested where their words stand.
use mathlib.Core.Path.{◌≡◌, refl, sym, ap, ◌∙◌}
use mathlib.Core.Bool.{Bool, true, false, cond}
use mathlib.Core.List.{List}
use Prim.Native.Nat.{ℕ, zero, suc, ◌*◌, ◌≤◌, ◌<◌}
use native.Mathlib.Nat.{mul-le-mul}
use native.Mathlib.Omega.{arith}
use lib.IntN.{ℤ, pos, neg_ℤ, nat_abs}
use lib.Signed.{lt_z, le_z}
use Rattle.signed.specs.Parts.{up, dn}
use Rattle.signed.proofs.Signed.{signed, one-zero, nat_abs-is}
use Rattle.signed.proofs.Operations.{up_neg, dn-neg}
use Rattle.signed.proofs.Order.{to-le-true}
use Rattle.refusals.proofs.Tests.{and_first, and_second}
use Rattle.axis.specs.declared.segment.Segment.{Segment}
use Rattle.axis.specs.Handed.{Short}
use Rattle.axis.specs.Limits.{most_segments, most_units}
use Rattle.axis.specs.Refusals.{every, inside, within}
use Rattle.axis.specs.Segment.{segment_at}
use Rattle.fixed.specs.Point.{rounded}
use Rattle.fixed.specs.Steps.{signed_like}
use Rattle.fixed.proofs.Rounding.{rounded-grows, mul-sign}
use Rattle.build.specs.Building.{scaled_holds, products_hold}
use Rattle.words.specs.Segment.{segments_in, flat_segments}
use Rattle.words.proofs.Places.{segment-read}
use Rattle.words.proofs.Typed.{typed}
use Rattle.build_join_words.specs.Reading.{asked, words_of, segment_in}

-- the other fields do not matter
scaled-asked : (scale : ℤ) (s : Segment) → scaled_holds scale (asked s) ≡ scaled_holds scale s
unfolding scaled_holds
scaled-asked scale s = refl

pub scaled-tested : (ws : List ℤ) (scale z : ℤ) (i : ℕ) (s : Segment) (r v : Bool) → z ≡ scale → i < segments_in ws → segments_in ws ≤ most_segments
    → s ≡ segment_in ws i → r ≡ scaled_holds z s → r ≡ v
    → scaled_holds scale (segment_at (flat_segments ws) i) ≡ v
scaled-tested ws scale z i s r v q h few p e g =
    ap (scaled_holds scale) (segment-read ws i h few) ∙ sym (scaled-asked scale (words_of ws i)) ∙ (λ n. scaled_holds (sym q n) (sym p n)) ∙ sym e ∙ g

-- ---- a safe scale
-- the largest scale at which every 16-bit position is accepted
abbrev pub safe_scale : ℕ
safe_scale = 131070

-- a number with the sign of two others is as large
sized : (n : ℕ) (a b : ℤ) → (up (signed_like n a b) ≤ n) × (dn (signed_like n a b) ≤ n)
unfolding signed_like
sized n a b = by (lt_z a (pos 0)) (lt_z b (pos 0))
  where
    below : (up (neg_ℤ (pos n)) ≤ n) × (dn (neg_ℤ (pos n)) ≤ n)
    below = (omega (arith, up_neg (pos n)), omega (arith, dn-neg (pos n)))

    above : (up (pos n) ≤ n) × (dn (pos n) ≤ n)
    above = (omega arith, omega arith)

    by : (x y : Bool) → let z = cond x (cond y (pos n) (neg_ℤ (pos n))) (cond y (neg_ℤ (pos n)) (pos n)) in (up z ≤ n) × (dn z ≤ n)
    by true true = above
    by true false = below
    by false true = below
    by false false = above

-- the largest product of a 16-bit position and a safe scale
largest : rounded (32768 * safe_scale) 65536 ≡ most_units
unfolding rounded
largest = refl

-- a number within the table is accepted
accepted : (z : ℤ) → up z ≤ most_units → dn z ≤ most_units → within most_units z ≡ true
accepted z h l = rw (to-le-true (neg_ℤ (pos most_units)) z (omega arith), to-le-true z (pos most_units) (omega arith))

-- the position of a segment at a safe scale is accepted
pub safe-holds : (scale : ℤ) (s : Segment) → nat_abs scale ≤ safe_scale → Short s.pos → scaled_holds scale s ≡ true
unfolding scaled_holds
safe-holds scale s h p =
    let n = rounded (nat_abs s.pos * nat_abs scale) 65536 in
    let a : nat_abs s.pos ≤ 32768 = omega (arith, nat_abs-is s.pos, one-zero s.pos, p.low, p.high) in
    let m = rounded-grows (nat_abs s.pos * nat_abs scale) (32768 * safe_scale) 65536 (omega arith) (mul-le-mul a h) in
    let z = sized n s.pos scale in
    ap (within most_units) (mul-sign s.pos scale) ∙ accepted (signed_like n s.pos scale) (omega (arith, z.0, m, largest)) (omega (arith, z.1, m, largest))

-- a test that everything passes
every-all : (p : ℕ → Bool) (n : ℕ) → ((i : ℕ) → p i ≡ true) → every p n ≡ true
unfolding every
every-all p zero h = refl
every-all p (suc n) h = rw (every-all p n h, h n)

-- and so are those of all
pub safe-products : (ws : List ℤ) (scale : ℤ) → inside (pos 0) (pos safe_scale) scale ≡ true → true ≡ products_hold (flat_segments ws) scale
unfolding products_hold flat_segments
safe-products ws scale h =
    let a = and_first (le_z (pos 0) scale) _ h in
    let b = and_second (le_z (pos 0) scale) _ h in
    let k : nat_abs scale ≤ safe_scale = omega (arith, signed, nat_abs-is scale, one-zero scale) in
    sym (every-all _ _ (λ (i : ℕ). safe-holds scale _ k ((typed ws 0 (segments_in ws)).segment i).pos))
