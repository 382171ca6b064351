-- `fixed::point::wide_div` meets its contract: the rounded quotient of the magnitudes, with the sign of the two.
use native.Mathlib.Omega.{arith}
use mathlib.Core.Path.{◌≡◌, sym, ap, ◌∙◌}
use Prim.Native.Nat.{◌*◌}
use lib.IntN.{nat_abs}
use mir.Syntax.{w64}
use Rattle.signed.proofs.Signed.{signed, fits, is, got, range, abs-of, between-sfits}
use Rattle.signed.proofs.By.{by₂, by₃}
use Rattle.fixed.specs.Point.{rounded}
use Rattle.fixed.specs.Steps.{signed_like}
use Rattle.fixed.proofs.Rounding.{rounded-at-most, div-sign}
use Rattle.fixed.proofs.point.wide_div.Goals as goal
use Rattle.fixed.proofs.point.wide_div.Goals.{After-quotient_size}

pub quotient_size-requires : goal.quotient_size-requires
quotient_size-requires c = rw (is c.ranges.b) c.requires

-- the magnitude of the answer
q-is : (c : After-quotient_size) → c.quotient_size.result ≡ rounded (nat_abs c.args.a * 65536) (nat_abs c.args.b)
q-is c = by₂ rounded c.quotient_size.ensures (ap (λ z. nat_abs z * 65536) (is c.ranges.a)) (ap nat_abs (is c.ranges.b))

-- both in 64 bits
pub overflow_cast-a : goal.overflow_cast-a
overflow_cast-a c = fits (omega (arith, signed, range c.ranges.a))

pub overflow_cast-b : goal.overflow_cast-b
overflow_cast-b c = fits (omega (arith, signed, range c.ranges.b))

pub with_sign-requires : goal.with_sign-requires
with_sign-requires c =
    let s = c.before in
    omega (arith, q-is c, rounded-at-most (nat_abs s.args.a * 65536) (nat_abs s.args.b) s.requires, abs-of (between-sfits s.ranges.a))

pub returns : goal.returns
returns c =
    let w = c.before in
    let s = w.before in
    is (got w64 c.with_sign.result c.with_sign.type_inv)
    ∙ by₃ signed_like c.with_sign.ensures (q-is w) (is (overflow_cast-a w) ∙ is s.ranges.a) (is (overflow_cast-b w) ∙ is s.ranges.b) ∙ sym (div-sign s.args.a s.args.b s.requires)
