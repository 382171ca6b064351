-- Quotients rounded up, the product from halves, and the first column at or right of a crossing. Assumes nothing.
use mathlib.Core.Path.{◌≡◌, ap}
use mathlib.Core.Logic.{⊎_elim}
use Prim.Native.Nat.{ℕ, ◌+◌, ◌-◌, ◌*◌, ◌/◌, ◌%◌, ◌≤◌, ◌<◌}
use native.Mathlib.Nat.{div-mul-le_self, lt-div-mul-add, mul-le-mul, mul-le-mul_left, mul-le-mul_right}
use native.Mathlib.Omega.{arith}
use Rattle.signed.proofs.Signed.{lt-or-le}
use Rattle.shown_rows.specs.Crossing.{most_place, centre, Starts, ceiling}

-- ---- quotients rounded up
pub record Up (n d q : ℕ) : Type 0 where
  pub not_below : n ≤ q * d
  pub not_above : q * d < n + d

pub ceiling-law : (n d : ℕ) → 0 < d → Up n d (ceiling n d)
ceiling-law n d h = record {
  not_below = omega (arith, lt-div-mul-add {a = n + d - 1} {b = d} h);
  not_above = omega (arith, div-mul-le_self (n + d - 1) d);
}

-- it is the least of which d are as much
pub ceiling-least : (n d k : ℕ) → 0 < d → n ≤ k * d → ceiling n d ≤ k
ceiling-least n d k h l = ⊎_elim (λ x. absurd (omega (arith, (ceiling-law n d h).not_above, mul-le-mul_right d x))) (λ x. x) (lt-or-le k (ceiling n d))

-- a part of x is no more than x
pub part-most : (x y d : ℕ) → 0 < d → y ≤ d → ceiling (x * y) d ≤ x
part-most x y d h l = ceiling-least (x * y) d x h (mul-le-mul_left x l)

-- ---- the product from halves
module _ (x y h l k m : ℕ) (xs : x ≡ h * 65536 + l) (ys : y ≡ k * 65536 + m) where
  four : x * y ≡ h * k * 4294967296 + (h * m + l * k) * 65536 + l * m
  four = omega (arith, ap (λ (z : ℕ). z * y) xs, ap (λ (z : ℕ). h * z) ys, ap (λ (z : ℕ). l * z) ys)

pub record Halves (x y : ℕ) : Type 0 where
  pub low : x % 65536 * (y % 65536) ≤ 65535 * 65535
  pub high : x / 65536 * (y / 65536) ≤ 1023 * 1023
  pub left : x / 65536 * (y % 65536) ≤ 1023 * 65535
  pub right : x % 65536 * (y / 65536) ≤ 65535 * 1023
  pub whole : x * y ≡ x / 65536 * (y / 65536) * 4294967296 + (x / 65536 * (y % 65536) + x % 65536 * (y / 65536)) * 65536 + x % 65536 * (y % 65536)

pub halves : (x y : ℕ) → x < most_place → y < most_place → Halves x y
halves x y p q =
    let l : x % 65536 ≤ 65535 = omega arith in
    let m : y % 65536 ≤ 65535 = omega arith in
    let h : x / 65536 ≤ 1023 = omega arith in
    let k : y / 65536 ≤ 1023 = omega arith in
    record {
      low = mul-le-mul l m;
      high = mul-le-mul h k;
      left = mul-le-mul h m;
      right = mul-le-mul l k;
      whole = four x y (x / 65536) (x % 65536) (y / 65536) (y % 65536) (omega arith) (omega arith);
    }

pub product-most : (x y : ℕ) → x < most_place → y < most_place → x * y ≤ 67108863 * 67108863
product-most x y p q = mul-le-mul {n₂ = 67108863} {m₂ = 67108863} (omega arith) (omega arith)

-- ---- the first column
-- a crossing at m + n / d
module _ (lx ly hx hy y m n : ℕ) (some : 0 < hy - ly) (at : lx * (hy - y) + hx * (y - ly) ≡ m * (hy - ly) + n) where
  starts : Starts lx ly hx hy y ((m + ceiling n (hy - ly) + 16383) / 32768)
  starts =
      let d = hy - ly in
      let q = ceiling n d in
      let law = ceiling-law n d some in
      record {
        inside = λ i h. let k : m + q ≤ centre i = omega arith in omega (arith, at, law.not_below, mul-le-mul_right d k);
        outside = λ i h.
            let k : m + q ≤ centre i = ⊎_elim (λ x. absurd (omega (arith, at, h, law.not_above, mul-le-mul_right d x))) (λ x. x)
            (lt-or-le (centre i) (m + q)) in
            omega arith;
      }

-- a line that goes up to the right, or straight up
pub starts-right : (lx ly hx hy y : ℕ) → ly ≤ y → y < hy → lx ≤ hx → Starts lx ly hx hy y ((lx + ceiling ((hx - lx) * (y - ly)) (hy - ly) + 16383) / 32768)
starts-right lx ly hx hy y p q l =
    let e : hy - ly ≡ (hy - y) + (y - ly) = omega arith in
    let f : hx ≡ lx + (hx - lx) = omega arith in
    starts lx ly hx hy y lx ((hx - lx) * (y - ly)) (omega arith) (omega (arith, ap (λ (z : ℕ). lx * z) e, ap (λ (z : ℕ). z * (y - ly)) f))

-- one that goes up to the left
pub starts-left : (lx ly hx hy y : ℕ) → ly ≤ y → y < hy → hx ≤ lx → Starts lx ly hx hy y ((hx + ceiling ((lx - hx) * (hy - y)) (hy - ly) + 16383) / 32768)
starts-left lx ly hx hy y p q l =
    let e : hy - ly ≡ (hy - y) + (y - ly) = omega arith in
    let f : lx ≡ hx + (lx - hx) = omega arith in
    starts lx ly hx hy y hx ((lx - hx) * (hy - y)) (omega arith) (omega (arith, ap (λ (z : ℕ). hx * z) e, ap (λ (z : ℕ). z * (hy - y)) f))
