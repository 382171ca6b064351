-- Pixel floor and round: what they are, and how far from the number they lie. Facts to list: `omega (arith, signed, floor-law x)`.
use mathlib.Core.Path.{◌≡◌}
use Prim.Native.Nat.{◌+◌, ◌%◌, ◌≤◌, ◌<◌}
use native.Mathlib.Omega.{arith}
use lib.IntN.{ℤ, pos, ◌+ℤ◌}
use lib.Signed.{shr_z}
use Rattle.signed.specs.Parts.{up, dn}
use Rattle.signed.proofs.Signed.{add-law, mul-up, mul-dn, shr-law}
use Rattle.fixed.specs.Pixel.{pix_floor, pix_round}

-- r is the largest multiple of 64 not above z
pub record Floor (z r : ℤ) : Type 0 where
  pub not_above : up r + dn z ≤ up z + dn r
  pub next_above : up z + dn r < up r + dn z + 64
  pub whole_up : up r % 64 ≡ 0
  pub whole_dn : dn r % 64 ≡ 0

pub floor-law : (z : ℤ) → Floor z (pix_floor z)
unfolding pix_floor
floor-law z =
    let q = shr_z z 64 in
    let l = shr-law z 64 tt in
    record {
      not_above = omega (arith, l, mul-up q 64, mul-dn q 64);
      next_above = omega (arith, l, mul-up q 64, mul-dn q 64);
      whole_up = omega (arith, mul-up q 64);
      whole_dn = omega (arith, mul-dn q 64);
    }

-- r is the multiple of 64 nearest to z, the larger on a tie
pub record Round (z r : ℤ) : Type 0 where
  pub at_most_half_above : up r + dn z ≤ up z + dn r + 32
  pub less_than_half_below : up z + dn r < up r + dn z + 32
  pub whole_up : up r % 64 ≡ 0
  pub whole_dn : dn r % 64 ≡ 0

pub round-law : (z : ℤ) → Round z (pix_round z)
unfolding pix_round
round-law z =
    let l = floor-law (z +ℤ pos 32) in
    let a = add-law z (pos 32) in
    record { at_most_half_above = omega arith; less_than_half_below = omega arith; whole_up = l.whole_up; whole_dn = l.whole_dn }
