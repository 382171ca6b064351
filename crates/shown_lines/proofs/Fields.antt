-- Coordinates in the field, from its corner on. Assumes nothing.
use Prim.Native.Nat.{ℕ, ◌+◌, ◌-◌, ◌*◌, ◌≤◌, ◌<◌}
use native.Mathlib.Nat.{mul-le-mul, mul-le-mul_left, mul-le-mul_right}
use native.Mathlib.Omega.{arith}
use lib.Dec.{T}
use lib.IntN.{ℤ, pos, nat_abs, ◌+ℤ◌, ◌*ℤ◌}
use lib.Signed.{non_neg}
use mir.Syntax.{w32}
use mir.Val.{SFits, Fits}
use Rattle.signed.specs.Parts.{up, dn}
use Rattle.signed.proofs.Signed.{one-zero, nat_abs-is, add-law, nat_abs_mul, fits-abs, to-sfits, to-unsigned}
use Rattle.weak_contour.specs.Limits.{most_coordinate}
use Rattle.shown_rows.specs.Chains.{place_at}
use Rattle.shown_rows.specs.Crossing.{most_place}
use Rattle.shown_rows.proofs.Closed.{all-below}
use Rattle.shown_lines.specs.Lines.{field_half, most_halves}

-- ---- twice a coordinate, magnified
module _ (m : ℕ) (a b : ℤ) (some : 0 < m) (p : m * nat_abs a ≤ most_coordinate) (q : m * nat_abs b ≤ most_coordinate) where
  sum-most : nat_abs (a +ℤ b) ≤ nat_abs a + nat_abs b
  sum-most = omega (arith, nat_abs-is (a +ℤ b), nat_abs-is a, nat_abs-is b, add-law a b, one-zero (a +ℤ b))

  product-most : nat_abs (pos m *ℤ (a +ℤ b)) ≤ 131070
  product-most = omega (arith, nat_abs_mul (pos m) (a +ℤ b), mul-le-mul_left m sum-most, p, q)

  pub sum_fits : SFits w32 (a +ℤ b)
  sum_fits = fits-abs (omega (arith, sum-most, p, q, mul-le-mul_right (nat_abs a) some, mul-le-mul_right (nat_abs b) some))

  pub product-fits : SFits w32 (pos m *ℤ (a +ℤ b))
  product-fits = fits-abs (omega (arith, product-most))

  abbrev pub whole : ℤ
  whole = pos m *ℤ (a +ℤ b) +ℤ pos (2 * field_half)

  -- it is not below 0, and in the field
  pub whole_parts : (dn whole ≤ up whole) × (up whole < dn whole + most_halves)
  whole_parts =
      let t = pos m *ℤ (a +ℤ b) in
      let e = add-law t (pos (2 * field_half)) in
      (omega (arith, e, nat_abs-is t, product-most), omega (arith, e, nat_abs-is t, product-most))

  pub whole-fits : SFits w32 whole
  whole-fits = to-sfits w32 whole (omega (arith, whole_parts.0, whole_parts.1), omega (arith, whole_parts.0))

  pub whole-unsigned : T (non_neg whole) × Fits w32 (nat_abs whole)
  whole-unsigned = to-unsigned w32 whole (whole_parts.0, omega (arith, whole_parts.1))

  pub whole-less : nat_abs whole < most_halves
  whole-less = omega (arith, whole_parts.0, whole_parts.1, nat_abs-is whole, one-zero whole)

-- ---- the place at k / 16
module _ (p c q k : ℕ) (x : p < most_halves) (y : c < most_halves) (z : q < most_halves) (h : k ≤ 16) where
  pub place-less : place_at p c q k < most_place
  place-less = omega (arith, all-below p c q k 67108863 h (omega arith) (omega arith) (omega arith))

  -- what its terms come to
  abbrev pub u : ℕ
  u = 16 - k

  pub record Weights : Type 0 where
    pub start : u * u ≤ 256
    pub starts : u * u * p ≤ 256 * 262143
    pub turn : u * k ≤ 256
    pub turns : u * k * c ≤ 256 * 262143
    pub end : k * k ≤ 256
    pub ends : k * k * q ≤ 256 * 262143

  pub weights : Weights
  weights =
      let a : u * u ≤ 256 = mul-le-mul {n₂ = 16} {m₂ = 16} (omega arith) (omega arith) in
      let b : u * k ≤ 256 = mul-le-mul {n₂ = 16} {m₂ = 16} (omega arith) h in
      let d : k * k ≤ 256 = mul-le-mul {n₂ = 16} {m₂ = 16} h h in
      record {
        start = a;
        starts = mul-le-mul {m₂ = 262143} a (omega arith);
        turn = b;
        turns = mul-le-mul {m₂ = 262143} b (omega arith);
        end = d;
        ends = mul-le-mul {m₂ = 262143} d (omega arith);
      }
