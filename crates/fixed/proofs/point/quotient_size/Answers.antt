-- `fixed::point::quotient_size` meets its contract: the rounded quotient of the magnitudes.
use native.Mathlib.Omega.{arith}
use mathlib.Core.Path.{◌≡◌, ap, ◌∙◌}
use Prim.Native.Nat.{ℕ, ◌*◌, ◌≤◌}
use lib.IntN.{nat_abs}
use Rattle.signed.proofs.Signed.{signed, fits, is, range, abs-of, between-sfits}
use Rattle.signed.proofs.By.{by₂}
use Rattle.fixed.specs.Point.{rounded}
use Rattle.fixed.proofs.point.quotient_size.Goals as goal
use Rattle.fixed.proofs.point.quotient_size.Goals.{After-magnitude, After-magnitude-n}

pub overflow_cast-a : goal.overflow_cast-a
overflow_cast-a c = fits (omega (arith, signed, range c.ranges.a))

pub magnitude-n-requires : goal.magnitude-n-requires
magnitude-n-requires c = let k = overflow_cast-a c in omega (arith, signed, range c.ranges.a)

-- the dividend's magnitude
a-is : (c : After-magnitude-n) → c.magnitude-n.result ≡ nat_abs c.args.a
a-is c = c.magnitude-n.ensures ∙ ap nat_abs (is (overflow_cast-a c.before) ∙ is c.ranges.a)

a-most : (c : After-magnitude-n) → c.magnitude-n.result ≤ 2147483648
a-most c = omega (arith, a-is c, abs-of (between-sfits c.ranges.a))

pub overflow_mul-n : goal.overflow_mul-n
overflow_mul-n c = omega (arith, a-most c)

pub overflow_cast-b : goal.overflow_cast-b
overflow_cast-b c = fits (omega (arith, signed, range c.ranges.b))

pub magnitude-requires : goal.magnitude-requires
magnitude-requires c = let k = overflow_cast-b c in omega (arith, signed, range c.ranges.b)

-- the divisor's magnitude
b-is : (c : After-magnitude) → c.magnitude.result ≡ nat_abs c.args.b
b-is c = c.magnitude.ensures ∙ ap nat_abs (is (overflow_cast-b c.before) ∙ is c.ranges.b)

pub rounded_quotient-requires : goal.rounded_quotient-requires
rounded_quotient-requires c =
    let s = c.before.before in
    omega (arith, a-most c.before, b-is c, s.requires, abs-of (between-sfits s.ranges.b))

pub returns : goal.returns
returns c = by₂ rounded c.rounded_quotient.ensures (ap (λ (n : ℕ). n * 65536) (a-is c.before.before)) (b-is c.before)
