-- `fixed::point::wide_mul` meets its contract: the rounded product of the magnitudes, with the sign of the two.
use native.Mathlib.Nat.{mul-le-mul}
use native.Mathlib.Omega.{arith}
use mathlib.Core.Path.{◌≡◌, sym, ap, ◌∙◌}
use Prim.Native.Nat.{◌*◌, ◌≤◌}
use lib.IntN.{nat_abs}
use mir.Syntax.{w64}
use Rattle.signed.proofs.Signed.{signed, fits, is, got, range, abs-of, between-sfits}
use Rattle.signed.proofs.By.{by₃}
use Rattle.fixed.specs.Point.{rounded}
use Rattle.fixed.specs.Steps.{signed_like}
use Rattle.fixed.proofs.Rounding.{rounded-at-most, mul-sign}
use Rattle.fixed.proofs.point.wide_mul.Goals as goal
use Rattle.fixed.proofs.point.wide_mul.Goals.{After-rounded_product, After-size, After-size-2, Start}

-- the first magnitude
a-is : (c : After-size) → c.size.result ≡ nat_abs c.args.a
a-is c = c.size.ensures ∙ ap nat_abs (is c.ranges.a)

-- the second
b-is : (c : After-size-2) → c.size-2.result ≡ nat_abs c.args.b
b-is c = c.size-2.ensures ∙ ap nat_abs (is c.ranges.b)

-- both are at most 2^31
a-most : (s : Start) → nat_abs s.args.a ≤ 2147483648
a-most s = omega (arith, abs-of (between-sfits s.ranges.a))

b-most : (s : Start) → nat_abs s.args.b ≤ 2147483648
b-most s = omega (arith, abs-of (between-sfits s.ranges.b))

pub rounded_product-requires : goal.rounded_product-requires
rounded_product-requires c = let s = c.before.before in (omega (arith, a-is c.before, a-most s), omega (arith, b-is c, b-most s))

-- the entry of a place behind the product
abbrev start : After-rounded_product → Start
start c = c.before.before.before

-- the magnitude of the answer
product_is : (c : After-rounded_product) → c.rounded_product.result ≡ rounded (nat_abs (start c).args.a * nat_abs (start c).args.b) 65536
product_is c = c.rounded_product.ensures ∙ λ i. rounded (a-is c.before.before i * b-is c.before i) 65536

-- both in 64 bits
pub overflow_cast-a : goal.overflow_cast-a
overflow_cast-a c = fits (omega (arith, signed, range (start c).ranges.a))

pub overflow_cast-b : goal.overflow_cast-b
overflow_cast-b c = fits (omega (arith, signed, range (start c).ranges.b))

pub with_sign-requires : goal.with_sign-requires
with_sign-requires c =
    let s = start c in
    omega (
      arith,
      product_is c,
      rounded-at-most (nat_abs s.args.a * nat_abs s.args.b) 65536 (omega arith),
      mul-le-mul {n₂ = 2147483648} {m₂ = 2147483648} (a-most s) (b-most s),
    )

pub returns : goal.returns
returns c =
    let w = c.before in
    let s = start w in
    is (got w64 c.with_sign.result c.with_sign.type_inv)
    ∙ by₃ signed_like c.with_sign.ensures (product_is w) (is (overflow_cast-a w) ∙ is s.ranges.a) (is (overflow_cast-b w) ∙ is s.ranges.b) ∙ sym (mul-sign s.args.a s.args.b)
