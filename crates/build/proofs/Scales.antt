-- The numbers of an accepted call, and the distance threshold.
use mathlib.Core.Path.{◌≡◌}
use mathlib.Core.Bool.{Bool, true, false}
use Prim.Native.Nat.{ℕ, ◌≤◌, ◌<◌, min}
use native.Mathlib.Omega.{arith}
use lib.IntN.{ℤ, pos, nat_abs}
use lib.Signed.{lt_z, le_z}
use mir.Syntax.{w32}
use mir.Val.{SFits}
use Rattle.signed.specs.Range.{Between}
use Rattle.signed.proofs.Signed.{signed, range, one-zero, nat_abs-is}
use Rattle.fixed.specs.Point.{rounded, mul_fix, div_fix}
use Rattle.fixed.proofs.Rounding.{mul-fits, div-abs}
use Rattle.refusals.proofs.Tests.{and_first, and_second}
use Rattle.axis.specs.declared.segment.Segments.{Segments}
use Rattle.axis.specs.Limits.{most_segments, most_units, most_score, least_scale, most_scale}
use Rattle.axis.specs.Refusals.{inside}
use Rattle.axis.specs.Segment.{segment_at}
use Rattle.axis.proofs.Acceptance.{inside-between, within-between}
use Rattle.axis.proofs.Tests.{every-at}
use Rattle.build.specs.declared.numbers.Thresholds.{Thresholds}
use Rattle.build.specs.Building.{numbers_hold, scaled_holds, products_hold, most_distance, distance_threshold}

-- ---- what numbers that hold are
pub record Right (scale : ℤ) (by : Thresholds) : Type 0 where
  pub scale_within : Between 0 most_scale scale
  pub scale_not_0 : 0 < nat_abs scale
  pub distance : Between 0 most_score by.distance
  pub length : Between 0 most_score by.length

pub right : (scale : ℤ) (by : Thresholds) → numbers_hold scale by ≡ true → Right scale by
unfolding numbers_hold
right scale by h =
    let s = and_first (inside (pos least_scale) (pos most_scale) scale) _ h in
    let rest = and_second (inside (pos least_scale) (pos most_scale) scale) _ h in
    let a = and_first (le_z (pos least_scale) scale) _ s in
    let b = and_second (le_z (pos least_scale) scale) _ s in
    let rest2 = and_second (inside (pos 0) (pos most_score) by.distance) _ rest in
    record {
      scale_within = omega (arith, signed);
      scale_not_0 = omega (arith, signed, nat_abs-is scale);
      distance = inside-between most_score by.distance (and_first _ _ rest);
      length = inside-between most_score by.length (and_first _ _ rest2);
    }

-- every position at the scale is within the table
pub products-within : (t : Segments) (scale : ℤ) → t.len ≤ most_segments → products_hold t scale ≡ true → (i : ℕ) → i < t.len
    → Between most_units most_units (mul_fix (segment_at t i).pos scale)
unfolding products_hold scaled_holds
products-within t scale few h i q = within-between most_units _ (every-at _ i (min t.len most_segments) h (omega arith))

-- ---- the distance threshold
both : (n : ℕ) (z : ℤ) → Between 0 n z → Between n n z
both n z h = omega arith

pub scaled_fits : (first scale : ℤ) → Between 0 most_score first → Between 0 most_scale scale → SFits w32 (mul_fix first scale)
unfolding rounded
scaled_fits first scale a b = mul-fits (both most_score first a) (both most_scale scale b) tt

-- a quotient of 32-bit numbers is far from the ends of 64
pub quotient-near : (a b : ℤ) → SFits w32 a → 0 < nat_abs b → Between 4611686018427387904 4611686018427387904 (div_fix a b)
quotient-near a b f h = omega (arith, signed, range f, div-abs a b h, nat_abs-is a, one-zero a, nat_abs-is (div_fix a b))

pub number-near : (z : ℤ) → SFits w32 z → Between 4611686018427387904 4611686018427387904 z
number-near z f = omega (arith, signed, range f)

pub over : (cjk : Bool) (first scale : ℤ) → lt_z most_distance (mul_fix first scale) ≡ true → distance_threshold cjk first scale ≡ div_fix most_distance scale
unfolding distance_threshold
over true first scale h = rw h
over false first scale h = rw h

pub under-cjk : (cjk : Bool) (first scale : ℤ) → lt_z most_distance (mul_fix first scale) ≡ false → cjk ≡ true → distance_threshold cjk first scale ≡ first
unfolding distance_threshold
under-cjk cjk first scale h e = rw (e, h)

pub under-latin : (cjk : Bool) (first scale : ℤ) → lt_z most_distance (mul_fix first scale) ≡ false → cjk ≡ false
    → distance_threshold cjk first scale ≡ div_fix (mul_fix first scale) scale
unfolding distance_threshold
under-latin cjk first scale h e = rw (e, h)
