-- The thresholds of accepted numbers: they fit, and the overlap asked for is not negative.
use mathlib.Core.Path.{◌≡◌}
use mathlib.Core.Bool.{true, false}
use Prim.Native.Nat.{◌<◌, ◌≤◌, zero-le}
use native.Mathlib.Omega.{arith}
use lib.IntN.{ℤ, pos, negsuc, nat_abs, ◌*ℤ◌}
use lib.Signed.{le_z, quot_z, ◌≤ℤ◌}
use mir.Syntax.{w32}
use mir.Val.{SFits}
use Rattle.signed.specs.Parts.{up, dn}
use Rattle.signed.specs.Range.{Between}
use Rattle.signed.proofs.Signed.{signed, atmost, fits-abs, nat_abs-is, times-up, times-dn}
use Rattle.fixed.specs.Point.{div_fix, derived}
use borrow.Author.Tests.{le-ltb}
use Rattle.fixed.specs.Divide.{steepest, too_steep}
use Rattle.fixed.proofs.Rounding.{div-abs}
use Rattle.axis.specs.Limits.{least_units_per_em, most_units_per_em, least_scale, most_score}
use Rattle.axis.specs.Refusals.{inside}
use Rattle.refusals.proofs.Tests.{and_first, and_second}
use Rattle.link.specs.Linking.{numbers_hold, thresholds_of}

-- a quotient of what is not negative is not
quot-not-below-0 : (z : ℤ) → dn z ≤ up z → dn (quot_z z (pos 2048)) ≤ up (quot_z z (pos 2048))
quot-not-below-0 (pos n) h = zero-le
quot-not-below-0 (negsuc n) h = absurd (omega arith)

-- the constant 8 is within the bounds of one
pub eight : Between 0 most_score (pos 8)
eight = omega arith

module _ (upem scale : ℤ) (h : numbers_hold upem scale ≡ true) where
  -- units per em are within bounds
  pub em-between : Between 0 most_units_per_em upem
  unfolding numbers_hold
  em-between =
      let k = and_first (inside (pos least_units_per_em) (pos most_units_per_em) upem) _ h in
      let a = and_first (le_z (pos least_units_per_em) upem) _ k in
      let b = and_second (le_z (pos least_units_per_em) upem) _ k in
      omega (arith, signed)

  -- the scale is not 0
  pub scale-some : 0 < nat_abs scale
  unfolding numbers_hold
  scale-some =
      let k = and_second (inside (pos least_units_per_em) (pos most_units_per_em) upem) _ h in
      let a = and_first (le_z (pos least_scale) scale) _ k in
      omega (arith, signed, nat_abs-is scale)

  -- three pixels at the scale are not too steep
  pub dist-gentle : too_steep (pos 192) scale ≡ false
  unfolding too_steep
  dist-gentle = le-ltb steepest (nat_abs (div_fix (pos 192) scale)) (omega (arith, div-abs (pos 192) scale scale-some))

  -- three pixels at the scale fit
  pub dist-fits : SFits w32 (div_fix (pos 192) scale)
  dist-fits = fits-abs (omega (arith, div-abs (pos 192) scale scale-some))

  -- the overlap asked for is not negative
  pub len-not-below-0 : pos 0 ≤ℤ (thresholds_of upem scale).len
  unfolding thresholds_of derived
  len-not-below-0 =
      let q = quot-not-below-0 (pos 8 *ℤ upem) (let b = em-between in omega (arith, times-up 8 upem, times-dn 8 upem)) in atmost (omega (arith, signed))
