-- A product from the 16-bit halves of its factors, and products and quotients by the signs of the two.
use mathlib.Core.Path.{◌≡◌, refl, ap}
use Prim.Native.Nat.{ℕ, ◌+◌, ◌*◌, ◌/◌, ◌%◌, ◌≤◌, zero-le}
use native.Mathlib.Nat.{mul-le-mul}
use native.Mathlib.Omega.{arith}
use borrow.Author.Tests.{le-ltb}
use lib.IntN.{ℤ, pos, negsuc, nat_abs, ◌*ℤ◌}
use Rattle.fixed.specs.Point.{rounded, rounded_z}
use Rattle.fixed.specs.Steps.{signed_like}

-- ---- from halves
-- the products of the halves of x and y, how large they are and what they make together
pub record Halves (x y : ℕ) : Type 0 where
  pub low : x % 65536 * (y % 65536) ≤ 65535 * 65535
  pub high : x / 65536 * (y / 65536) ≤ 32768 * 32768
  pub middle : x / 65536 * (y % 65536) + x % 65536 * (y / 65536) ≤ 4294967295
  pub whole : x * y ≡ x / 65536 * (y / 65536) * 4294967296 + (x / 65536 * (y % 65536) + x % 65536 * (y / 65536)) * 65536 + x % 65536 * (y % 65536)

-- x is h · 65,536 + l, and y is k · 65,536 + m
four : (x y h l k m : ℕ) → x ≡ h * 65536 + l → y ≡ k * 65536 + m → x * y ≡ h * k * 4294967296 + (h * m + l * k) * 65536 + l * m
four x y h l k m xs ys = omega (arith, ap (λ (z : ℕ). z * y) xs, ap (λ (z : ℕ). h * z) ys, ap (λ (z : ℕ). l * z) ys)

pub halves : (x y : ℕ) → x ≤ 2147483648 → y ≤ 2147483648 → Halves x y
halves x y p q =
    let xs : x ≡ x / 65536 * 65536 + x % 65536 = omega arith in
    let ys : y ≡ y / 65536 * 65536 + y % 65536 = omega arith in
    let l : x % 65536 ≤ 65535 = omega arith in
    let m : y % 65536 ≤ 65535 = omega arith in
    let h : x / 65536 ≤ 32768 = omega arith in
    let k : y / 65536 ≤ 32768 = omega arith in
    record {
      low = mul-le-mul l m;
      high = mul-le-mul h k;
      middle = omega (arith, mul-le-mul {n₂ = 32768} {m₂ = 65535} h m, mul-le-mul {n₂ = 65535} {m₂ = 32768} l k);
      whole = four x y (x / 65536) (x % 65536) (y / 65536) (y % 65536) xs ys;
    }

-- ---- by the signs of the two
pub product-sign : (a b : ℤ) → a *ℤ b ≡ signed_like (nat_abs a * nat_abs b) a b
unfolding signed_like
product-sign (pos m) (pos k) = rw (le-ltb m 0 zero-le, le-ltb k 0 zero-le)
product-sign (pos m) (negsuc k) = rw (le-ltb m 0 zero-le)
product-sign (negsuc m) (pos k) = rw (le-ltb k 0 zero-le)
product-sign (negsuc m) (negsuc k) = refl

pub ratio-sign : (n d : ℤ) → rounded_z n d ≡ signed_like (rounded (nat_abs n) (nat_abs d)) n d
unfolding rounded_z signed_like
ratio-sign (pos n) (pos d) = rw (le-ltb n 0 zero-le, le-ltb d 0 zero-le)
ratio-sign (pos n) (negsuc d) = rw (le-ltb n 0 zero-le)
ratio-sign (negsuc n) (pos d) = rw (le-ltb d 0 zero-le)
ratio-sign (negsuc n) (negsuc d) = refl
