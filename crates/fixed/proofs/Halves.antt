-- A rounded product from the 16-bit halves of its factors, as numbers of at most 2^31 have them.
use mathlib.Core.Path.{◌≡◌, ap}
use Prim.Native.Nat.{ℕ, ◌+◌, ◌*◌, ◌/◌, ◌%◌, ◌≤◌}
use native.Mathlib.Nat.{mul-le-mul}
use native.Mathlib.Omega.{arith}
use Rattle.fixed.specs.Point.{rounded}

-- what the low product hands up, its fraction rounded
abbrev carry : ℕ → ℕ → ℕ
carry l m = (l * m + 32768) / 65536

-- x is h · 65,536 + l, and y is k · 65,536 + m
module _ (x y h l k m : ℕ) (xs : x ≡ h * 65536 + l) (ys : y ≡ k * 65536 + m) where
  -- the whole product is the sum of the four
  four : x * y ≡ h * k * 4294967296 + (h * m + l * k) * 65536 + l * m
  four = omega (arith, ap (λ (z : ℕ). z * y) xs, ap (λ (z : ℕ). h * z) ys, ap (λ (z : ℕ). l * z) ys)

  -- so the low one alone is rounded
  by_parts : rounded (x * y) 65536 ≡ h * k * 65536 + (h * m + l * k + carry l m)
  unfolding rounded
  by_parts = omega (arith, four)

  module _ (few-l : l ≤ 65535) (few-m : m ≤ 65535) (few-x : x ≤ 2147483648) (few-y : y ≤ 2147483648) where
    low-most : l * m ≤ 65535 * 65535
    low-most = mul-le-mul few-l few-m

    h-most : h ≤ 32768
    h-most = omega arith

    k-most : k ≤ 32768
    k-most = omega arith

    high-most : h * k ≤ 32768 * 32768
    high-most = mul-le-mul h-most k-most

    -- 65,536 of it are at most x · m + l · (y - m) and a half
    middle-most : h * m + l * k + carry l m ≤ 4294967295
    middle-most =
        omega (
          arith,
          ap (λ (z : ℕ). z * m) xs,
          mul-le-mul {n₂ = 2147483648} {m₂ = 65535} few-x few-m,
          mul-le-mul {n₂ = 65535} {m₂ = 32768} few-l k-most,
        )

-- the products of the halves of x and y, how large they are and what they make together
pub record Halves (x y : ℕ) : Type 0 where
  pub low : x % 65536 * (y % 65536) ≤ 65535 * 65535
  pub high : x / 65536 * (y / 65536) ≤ 32768 * 32768
  pub middle : x / 65536 * (y % 65536) + x % 65536 * (y / 65536) + carry (x % 65536) (y % 65536) ≤ 4294967295
  pub whole : rounded (x * y) 65536 ≡ x / 65536 * (y / 65536) * 65536 + (x / 65536 * (y % 65536) + x % 65536 * (y / 65536) + carry (x % 65536) (y % 65536))

pub halves : (x y : ℕ) → x ≤ 2147483648 → y ≤ 2147483648 → Halves x y
halves x y p q =
    let xs : x ≡ x / 65536 * 65536 + x % 65536 = omega arith in
    let ys : y ≡ y / 65536 * 65536 + y % 65536 = omega arith in
    let l : x % 65536 ≤ 65535 = omega arith in
    let m : y % 65536 ≤ 65535 = omega arith in
    record {
      low = low-most x y (x / 65536) (x % 65536) (y / 65536) (y % 65536) xs ys l m p q;
      high = high-most x y (x / 65536) (x % 65536) (y / 65536) (y % 65536) xs ys l m p q;
      middle = middle-most x y (x / 65536) (x % 65536) (y / 65536) (y % 65536) xs ys l m p q;
      whole = by_parts x y (x / 65536) (x % 65536) (y / 65536) (y % 65536) xs ys;
    }
