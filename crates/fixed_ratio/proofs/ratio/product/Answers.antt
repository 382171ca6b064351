-- `fixed_ratio::ratio::product` meets its contract: the product of the magnitudes, with the sign of the two.
use borrow.Author.Rules.{rules}
use native.Mathlib.Nat.{mul-le-mul}
use native.Mathlib.Omega.{arith}
use mathlib.Core.Path.{◌≡◌, sym, ap, ◌∙◌}
use Prim.Native.Nat.{◌*◌, ◌≤◌}
use lib.IntN.{nat_abs}
use mir.Syntax.{w64}
use Rattle.signed.proofs.Signed.{signed, fits, is, got, range, abs-of, between-sfits}
use Rattle.signed.proofs.By.{by₃}
use Rattle.fixed.specs.Steps.{signed_like}
use Rattle.fixed_ratio.proofs.Products.{product-sign}
use Rattle.fixed_ratio.proofs.ratio.product.Goals as goal
use Rattle.fixed_ratio.proofs.ratio.product.Goals.{After-size, After-size-2, After-wide_product, Start}

-- the first magnitude
a-is : (c : After-size) → c.size.result ≡ nat_abs c.args.a
a-is c = c.size.ensures ∙ ap nat_abs (is c.ranges.a)

-- the second
b-is : (c : After-size-2) → c.size-2.result ≡ nat_abs c.args.b
b-is c = c.size-2.ensures ∙ ap nat_abs (is c.ranges.b)

-- both are at most 2^31
a-most : (s : Start) → nat_abs s.args.a ≤ 2147483648
a-most s = omega (arith, abs-of (between-sfits s.ranges.a))

b-most : (s : Start) → nat_abs s.args.b ≤ 2147483648
b-most s = omega (arith, abs-of (between-sfits s.ranges.b))

pub wide_product-requires : goal.wide_product-requires
wide_product-requires c = let s = c.before.before in (omega (arith, a-is c.before, a-most s), omega (arith, b-is c, b-most s))

-- the entry of a place behind the product
abbrev start : After-wide_product → Start
start c = c.before.before.before

-- the magnitude of the answer
product_is : (c : After-wide_product) → c.wide_product.result ≡ nat_abs (start c).args.a * nat_abs (start c).args.b
product_is c = c.wide_product.ensures ∙ λ i. a-is c.before.before i * b-is c.before i

pub overflow_cast-a : goal.overflow_cast-a
overflow_cast-a c = fits (omega (arith, signed, range (start c).ranges.a))

pub overflow_cast-b : goal.overflow_cast-b
overflow_cast-b c = fits (omega (arith, signed, range (start c).ranges.b))

pub with_sign-requires : goal.with_sign-requires
with_sign-requires c = let s = start c in omega (arith, product_is c, mul-le-mul {n₂ = 2147483648} {m₂ = 2147483648} (a-most s) (b-most s))

pub returns : goal.returns
returns c =
    let w = c.before in
    let s = start w in
    is (got w64 c.with_sign.result c.with_sign.type_inv)
    ∙ by₃ signed_like c.with_sign.ensures (product_is w) (is (overflow_cast-a w) ∙ is s.ranges.a) (is (overflow_cast-b w) ∙ is s.ranges.b)
    ∙ sym (product-sign s.args.a s.args.b)
