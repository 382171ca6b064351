-- `fixed_ratio::ratio::fixed_mul_div` meets its contract.
use borrow.Author.Rules.{rules}
use native.Mathlib.Nat.{mul-le-mul}
use native.Mathlib.Omega.{arith}
use mathlib.Core.Path.{◌≡◌, ◌∙◌}
use Prim.Native.Nat.{ℕ, ◌≤◌}
use lib.IntN.{ℤ, nat_abs, ◌*ℤ◌}
use mir.Syntax.{w32, w64}
use mir.Val.{SFits, to_z, of_z}
use Rattle.signed.specs.Range.{Between}
use Rattle.signed.proofs.Signed.{signed, fits, is, got, range, abs-of, between-sfits, nat_abs-is, nat_abs_mul}
use Rattle.fixed.specs.Point.{rounded_z}
use Rattle.fixed_ratio.specs.Ratio.{mul_div, most_product}
use Rattle.fixed_ratio.proofs.ratio.fixed_mul_div.Goals as goal
use Rattle.fixed_ratio.proofs.ratio.fixed_mul_div.Goals.{After-product}

-- a number by its magnitude, and that of one of 32 bits
between-abs : (z : ℤ) (n : ℕ) → nat_abs z ≤ n → Between n n z
between-abs z n h = omega (arith, nat_abs-is z)

most : {z : ℤ} → SFits w32 z → nat_abs z ≤ 2147483648
most f = omega (arith, abs-of (between-sfits f))

-- the product
product_is : (c : After-product) → to_z w64 (of_z w64 c.product.result) ≡ c.args.a *ℤ c.args.b
product_is c = is (got w64 c.product.result c.product.type_inv) ∙ c.product.ensures ∙ λ i. is c.ranges.a i *ℤ is c.ranges.b i

pub overflow_cast-c : goal.overflow_cast-c
overflow_cast-c c = fits (omega (arith, signed, range c.ranges.c))

pub rounded_ratio-requires : goal.rounded_ratio-requires
rounded_ratio-requires c =
    let s = c.before in
    let a = s.args.a in
    let b = s.args.b in
    rw (product_is c, is (overflow_cast-c c), is s.ranges.c) (
      between-abs (a *ℤ b) most_product (omega (arith, nat_abs_mul a b, mul-le-mul {n₂ = 2147483648} {m₂ = 2147483648} (most s.ranges.a) (most s.ranges.b))),
      between-abs s.args.c most_product (omega (arith, most s.ranges.c)),
      s.requires,
    )

pub returns : goal.returns
unfolding mul_div
returns c =
    let p = c.before in
    let s = p.before in
    is (got w64 c.rounded_ratio.result c.rounded_ratio.type_inv) ∙ c.rounded_ratio.ensures
    ∙ λ i. rounded_z (product_is p i) ((is (overflow_cast-c p) ∙ is s.ranges.c) i)
