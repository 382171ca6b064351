-- Numbers on the way to a position: half a pixel, two places that are not the same, and how far a part of the way goes.
use mathlib.Core.Path.{◌≡◌}
use mathlib.Core.Logic.{⊎_elim}
use Prim.Native.Nat.{ℕ, ◌+◌, ◌*◌, ◌≤◌, ◌<◌}
use native.Mathlib.Nat.{mul-le-mul}
use native.Mathlib.Omega.{arith}
use lib.IntN.{ℤ, nat_abs, ◌-ℤ◌}
use lib.Signed.{shr_z}
use Rattle.signed.specs.Parts.{up, dn}
use Rattle.signed.specs.Range.{Between}
use Rattle.signed.proofs.Signed.{nat_abs-is, one-zero, sub-law, mul-up, mul-dn, shr-law, to-≡, lt-or-le}
use Rattle.fixed_ratio.specs.Ratio.{mul_div}
use Rattle.fixed_ratio.proofs.Ratios.{ratio-abs}
use Rattle.axis.specs.Limits.{most_units}
use Rattle.place.specs.Steps.{most_reach}
use Rattle.remaining.specs.Plan.{half_floor}

-- r is the largest multiple of 32 not above z
pub record Halved (z r : ℤ) : Type 0 where
  pub not_above : up r + dn z ≤ up z + dn r
  pub next_above : up z + dn r < up r + dn z + 32

pub half-law : (z : ℤ) → Halved z (half_floor z)
unfolding half_floor
half-law z =
    let q = shr_z z 32 in
    let l = shr-law z 32 tt in
    record { not_above = omega (arith, l, mul-up q 32, mul-dn q 32); next_above = omega (arith, l, mul-up q 32, mul-dn q 32) }

-- two that are not the same are apart
pub apart-abs : (a b : ℤ) → (a ≡ b → ⊥) → 0 < nat_abs (a -ℤ b)
apart-abs a b n = ⊎_elim (λ h. h) (λ h. absurd (n (to-≡ a b (omega (arith, nat_abs-is (a -ℤ b), sub-law a b))))) (lt-or-le 0 (nat_abs (a -ℤ b)))

-- two in range are no further apart than twice that
distance_most : (m : ℕ) (a b : ℤ) → Between m m a → Between m m b → nat_abs (a -ℤ b) ≤ m + m
distance_most m a b h g = omega (arith, nat_abs-is (a -ℤ b), one-zero (a -ℤ b), sub-law a b)

pub part-most : (at b f p q : ℤ) → Between most_units most_units at → Between most_units most_units b → Between most_reach most_reach p
    → Between most_reach most_reach q → 0 < nat_abs (f -ℤ b)
    → nat_abs (mul_div (at -ℤ b) (q -ℤ p) (f -ℤ b)) ≤ (most_units + most_units) * (most_reach + most_reach)
part-most at b f p q h g k l n =
    omega (arith, ratio-abs (at -ℤ b) (q -ℤ p) (f -ℤ b) n, mul-le-mul (distance_most most_units at b h g) (distance_most most_reach q p l k))
