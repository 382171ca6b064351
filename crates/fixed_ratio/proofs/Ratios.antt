-- How large a ratio is, and where it lies: by a part of the divisor no more than the whole.
use mathlib.Core.Path.{◌≡◌, refl, ap}
use Prim.Native.Nat.{ℕ, zero, suc, ◌*◌, ◌≤◌, ◌<◌}
use native.Mathlib.Nat.{mul-le-mul_right}
use native.Mathlib.Omega.{arith}
use mathlib.Core.Logic.{⊎_elim}
use lib.IntN.{ℤ, pos, negsuc, neg_ℤ, nat_abs, ◌*ℤ◌}
use Rattle.signed.specs.Parts.{up, dn}
use Rattle.signed.proofs.Signed.{up_neg, dn-neg, times-up, times-dn, nat_abs_mul, lt-or-le}
use Rattle.fixed.specs.Point.{rounded, rounded_z}
use Rattle.fixed.proofs.Rounding.{rounded-law, rounded-at-most, rounded-grows, rounded-zero}
use Rattle.fixed_ratio.specs.Ratio.{mul_div}

-- ---- its size
negated-abs : (n : ℕ) → nat_abs (neg_ℤ (pos n)) ≡ n
negated-abs zero = refl
negated-abs (suc n) = refl

rounded-abs : (n d : ℤ) → nat_abs (rounded_z n d) ≡ rounded (nat_abs n) (nat_abs d)
unfolding rounded_z
rounded-abs (pos n) (pos d) = refl
rounded-abs (pos n) (negsuc d) = negated-abs (rounded n (suc d))
rounded-abs (negsuc n) (pos d) = negated-abs (rounded (suc n) d)
rounded-abs (negsuc n) (negsuc d) = refl

pub ratio-abs : (a b c : ℤ) → 0 < nat_abs c → nat_abs (mul_div a b c) ≤ nat_abs a * nat_abs b
unfolding mul_div
ratio-abs a b c h = omega (arith, rounded-abs (a *ℤ b) c, nat_abs_mul a b, rounded-at-most (nat_abs (a *ℤ b)) (nat_abs c) h)

-- ---- its place
-- a whole number of the divisor is not rounded
rounded-whole : (u d : ℕ) → 0 < d → rounded (d * u) d ≤ u
rounded-whole u d h = ⊎_elim (λ l. absurd (omega (arith, (rounded-law (d * u) d h).not_above, mul-le-mul_right d l))) (λ l. l) (lt-or-le u (rounded (d * u) d))

-- so that by a part of it no more is left
part-most : (k d u : ℕ) → 0 < d → k ≤ d → rounded (k * u) d ≤ u
part-most k d u h l = omega (arith, rounded-grows (k * u) (d * u) d h (mul-le-mul_right u l), rounded-whole u d h)

rounded_z-up : (n : ℤ) (d : ℕ) → 0 < d → up (rounded_z n (pos d)) ≡ rounded (up n) d
unfolding rounded_z
rounded_z-up (pos n) d h = refl
rounded_z-up (negsuc n) d h = omega (arith, up_neg (pos (rounded (suc n) d)), rounded-zero d h)

rounded_z-dn : (n : ℤ) (d : ℕ) → 0 < d → dn (rounded_z n (pos d)) ≡ rounded (dn n) d
unfolding rounded_z
rounded_z-dn (pos n) d h = omega (arith, rounded-zero d h)
rounded_z-dn (negsuc n) d h = omega (arith, dn-neg (pos (rounded (suc n) d)))

-- k of d parts of z have no more than z above zero, and no more below
pub record Part (z r : ℤ) : Type 0 where
  pub up_most : up r ≤ up z
  pub dn_most : dn r ≤ dn z

pub part_of : (k d : ℕ) (z : ℤ) → 0 < d → k ≤ d → Part z (mul_div (pos k) z (pos d))
unfolding mul_div
part_of k d z h l = record {
  up_most = omega (arith, rounded_z-up (pos k *ℤ z) d h, ap (λ (n : ℕ). rounded n d) (times-up k z), part-most k d (up z) h l);
  dn_most = omega (arith, rounded_z-dn (pos k *ℤ z) d h, ap (λ (n : ℕ). rounded n d) (times-dn k z), part-most k d (dn z) h l);
}
