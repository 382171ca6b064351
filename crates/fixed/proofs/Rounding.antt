-- Quotients rounded to nearest, and with them fixed multiply and divide: what they are, how large they are, how they grow.
use mathlib.Core.Path.{◌≡◌, refl}
use Prim.Native.Nat.{ℕ, zero, suc, ◌+◌, ◌*◌, ◌^◌, ◌≤◌, ◌<◌, zero-le}
use native.Mathlib.Nat.{div-mul-le_self, lt-div-mul-add, mul-le-mul, mul-le-mul_left, mul-le-mul_right}
use native.Mathlib.Omega.{arith}
use mathlib.Core.Logic.{⊎_elim}
use borrow.Author.Tests.{le-ltb}
use lib.Dec.{T, ltb, ltb→lt}
use lib.IntN.{ℤ, pos, negsuc, neg_ℤ, nat_abs, ◌*ℤ◌}
use lib.Signed.{◌≤ℤ◌}
use mir.Syntax.{Width}
use mir.Val.{SFits, hbits}
use Rattle.signed.specs.Parts.{up, dn}
use Rattle.signed.specs.Range.{Between}
use Rattle.signed.proofs.Signed.{signed, one-zero, to-≤ℤ, up_neg, dn-neg, mul-up, mul-dn, times-up, times-dn, nat_abs_mul, fits-abs, abs-of, lt-or-le}
use Rattle.fixed.specs.Point.{rounded, rounded_z, mul_fix, div_fix}
use Rattle.fixed.specs.Steps.{signed_like}

-- ---- magnitudes
-- q is n / d rounded to nearest: at most a half below it, and less than a half above, so that no other q is
pub record Rounded (n d q : ℕ) : Type 0 where
  pub not_above : 2 * (q * d) ≤ 2 * n + d
  pub not_below : 2 * n + d < 2 * (q * d) + 2 * d

pub rounded-law : (n d : ℕ) → 0 < d → Rounded n d (rounded n d)
unfolding rounded
rounded-law n d h = record {
  not_above = omega (arith, div-mul-le_self (2 * n + d) (2 * d));
  not_below = omega (arith, lt-div-mul-add {a = 2 * n + d} {b = 2 * d} (omega arith));
}

-- it is no more than what is divided
pub rounded-at-most : (n d : ℕ) → 0 < d → rounded n d ≤ n
rounded-at-most n d h =
    ⊎_elim (λ l. absurd (omega (arith, (rounded-law n d h).not_above, mul-le-mul_right d l, mul-le-mul_left n h))) (λ l. l) (lt-or-le n (rounded n d))

-- it grows with what is divided
pub rounded-grows : (m n d : ℕ) → 0 < d → m ≤ n → rounded m d ≤ rounded n d
rounded-grows m n d h l =
    ⊎_elim (λ k. absurd (omega (arith, (rounded-law m d h).not_above, (rounded-law n d h).not_below, mul-le-mul_right d k))) (λ k. k)
    (lt-or-le (rounded n d) (rounded m d))

-- 0 by anything is 0
pub rounded-zero : (d : ℕ) → 0 < d → rounded 0 d ≡ 0
rounded-zero d h = omega (arith, rounded-at-most 0 d h)

-- ---- by the signs of the two
-- what is not above zero is rounded by its magnitude
rounded-np : (n d : ℕ) → 0 < d → rounded_z (neg_ℤ (pos n)) (pos d) ≡ neg_ℤ (pos (rounded n d))
unfolding rounded_z
rounded-np zero d h = rw (rounded-zero d h)
rounded-np (suc n) d h = refl

rounded-nn : (n d : ℕ) → rounded_z (neg_ℤ (pos n)) (negsuc d) ≡ pos (rounded n (suc d))
unfolding rounded_z
rounded-nn zero d = rw (rounded-zero (suc d) (omega arith))
rounded-nn (suc n) d = refl

-- the magnitude, whatever the signs
nat_abs-pos-neg : (n : ℕ) → nat_abs (neg_ℤ (pos n)) ≡ n
nat_abs-pos-neg zero = refl
nat_abs-pos-neg (suc n) = refl

rounded-abs : (n d : ℤ) → nat_abs (rounded_z n d) ≡ rounded (nat_abs n) (nat_abs d)
unfolding rounded_z
rounded-abs (pos n) (pos d) = refl
rounded-abs (pos n) (negsuc d) = nat_abs-pos-neg (rounded n (suc d))
rounded-abs (negsuc n) (pos d) = nat_abs-pos-neg (rounded (suc n) d)
rounded-abs (negsuc n) (negsuc d) = refl

-- by a positive divisor each part is rounded by itself
rounded_z-up : (n : ℤ) (d : ℕ) → 0 < d → up (rounded_z n (pos d)) ≡ rounded (up n) d
unfolding rounded_z
rounded_z-up (pos n) d h = refl
rounded_z-up (negsuc n) d h = omega (arith, up_neg (pos (rounded (suc n) d)), rounded-zero d h)

rounded_z-dn : (n : ℤ) (d : ℕ) → 0 < d → dn (rounded_z n (pos d)) ≡ rounded (dn n) d
unfolding rounded_z
rounded_z-dn (pos n) d h = omega (arith, rounded-zero d h)
rounded_z-dn (negsuc n) d h = omega (arith, dn-neg (pos (rounded (suc n) d)))

-- ---- fixed multiply
-- a product is that of the magnitudes, rounded, with the sign of the two
pub mul-sign : (a b : ℤ) → mul_fix a b ≡ signed_like (rounded (nat_abs a * nat_abs b) 65536) a b
unfolding mul_fix rounded_z signed_like
mul-sign (pos m) (pos k) = rw (le-ltb m 0 zero-le, le-ltb k 0 zero-le)
mul-sign (pos m) (negsuc k) = rw (le-ltb m 0 zero-le) (rounded-np (m * suc k) 65536 (omega arith))
mul-sign (negsuc m) (pos k) = rw (le-ltb k 0 zero-le) (rounded-np (suc m * k) 65536 (omega arith))
mul-sign (negsuc m) (negsuc k) = refl

-- the magnitude of a product, from bounds on the magnitudes of its factors
mul-abs : (a b : ℤ) {A B : ℕ} → nat_abs a ≤ A → nat_abs b ≤ B → nat_abs (mul_fix a b) ≤ rounded (A * B) 65536
unfolding mul_fix
mul-abs a b {A} {B} h k =
    rw (rounded-abs (a *ℤ b) (pos 65536), nat_abs_mul a b) (rounded-grows (nat_abs a * nat_abs b) (A * B) 65536 (omega arith) (mul-le-mul h k))

-- a product of two numbers within bounds fits where the bounds' product does: `mul-fits {w = w32} h k tt`
pub mul-fits : {w : Width} {A B : ℕ} {a b : ℤ} → Between A A a → Between B B b → T (ltb (rounded (A * B) 65536) (2 ^ hbits w)) → SFits w (mul_fix a b)
mul-fits {w} {A} {B} {a} {b} h k t =
    fits-abs (omega (arith, mul-abs a b {A = A} {B = B} (omega (arith, abs-of h)) (omega (arith, abs-of k)), ltb→lt (rounded (A * B) 65536) (2 ^ hbits w) t))

-- a product by a factor that is not negative grows with the other one
pub mul-grows : (a b s : ℤ) → dn s ≤ up s → a ≤ℤ b → mul_fix a s ≤ℤ mul_fix b s
unfolding mul_fix
mul-grows a b (pos k) h l =
    let more : up a ≤ up b = omega (arith, signed, one-zero a, one-zero b) in
    let less : dn b ≤ dn a = omega (arith, signed, one-zero a, one-zero b) in
    to-≤ℤ (rounded_z (a *ℤ pos k) (pos 65536)) (rounded_z (b *ℤ pos k) (pos 65536))
    (omega (
      arith,
      rounded_z-up (a *ℤ pos k) 65536 (omega arith),
      rounded_z-dn (a *ℤ pos k) 65536 (omega arith),
      rounded_z-up (b *ℤ pos k) 65536 (omega arith),
      rounded_z-dn (b *ℤ pos k) 65536 (omega arith),
      rounded-grows (up (a *ℤ pos k)) (up (b *ℤ pos k)) 65536 (omega arith) (omega (arith, mul-up a k, mul-up b k, mul-le-mul_right k more)),
      rounded-grows (dn (b *ℤ pos k)) (dn (a *ℤ pos k)) 65536 (omega arith) (omega (arith, mul-dn a k, mul-dn b k, mul-le-mul_right k less)),
    ))
mul-grows a b (negsuc k) h l = absurd (omega arith)

-- ---- fixed divide
-- the magnitude of a quotient is no more than 65,536 times that of the dividend
pub div-abs : (a b : ℤ) → 0 < nat_abs b → nat_abs (div_fix a b) ≤ nat_abs a * 65536
unfolding div_fix
div-abs a b h =
    rw (rounded-abs (a *ℤ pos 65536) b) (omega (arith, nat_abs_mul a (pos 65536), rounded-at-most (nat_abs (a *ℤ pos 65536)) (nat_abs b) h))

-- a quotient is that of the magnitudes, rounded, with the sign of the two
pub div-sign : (a b : ℤ) → 0 < nat_abs b → div_fix a b ≡ signed_like (rounded (nat_abs a * 65536) (nat_abs b)) a b
unfolding div_fix rounded_z signed_like
div-sign (pos n) (pos d) h = rw (le-ltb n 0 zero-le, le-ltb d 0 zero-le)
div-sign (pos n) (negsuc d) h = rw (le-ltb n 0 zero-le)
div-sign (negsuc n) (pos d) h = rw (le-ltb d 0 zero-le) (rounded-np (suc n * 65536) d h)
div-sign (negsuc n) (negsuc d) h = rounded-nn (suc n * 65536) d

-- the parts of a quotient by a positive divisor
pub div-up : (c : ℤ) (s : ℕ) → 0 < s → up (div_fix c (pos s)) ≡ rounded (up c * 65536) s
unfolding div_fix
div-up c s h = rw (rounded_z-up (c *ℤ pos 65536) s h, mul-up c 65536)

pub div-dn : (c : ℤ) (s : ℕ) → 0 < s → dn (div_fix c (pos s)) ≡ rounded (dn c * 65536) s
unfolding div_fix
div-dn c s h = rw (rounded_z-dn (c *ℤ pos 65536) s h, mul-dn c 65536)

-- the parts of a product by a positive factor
pub mul-fix-up : (d : ℕ) (q : ℤ) → up (mul_fix (pos d) q) ≡ rounded (d * up q) 65536
unfolding mul_fix
mul-fix-up d q = rw (rounded_z-up (pos d *ℤ q) 65536 (omega arith), times-up d q)

pub mul-fix-dn : (d : ℕ) (q : ℤ) → dn (mul_fix (pos d) q) ≡ rounded (d * dn q) 65536
unfolding mul_fix
mul-fix-dn d q = rw (rounded_z-dn (pos d *ℤ q) 65536 (omega arith), times-dn d q)
