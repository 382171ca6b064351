-- `fixed_c::fixed_c_mul_div` meets its contract: the test tells whether there is a divisor.
use native.Mathlib.Omega.{arith}
use mathlib.Core.Path.{◌≡◌}
use borrow.Author.Tests.{eq-eqb, ne_eqb}
use lib.IntN.{nat_abs}
use mir.Syntax.{w64}
use Rattle.signed.proofs.Signed.{is, got, bits_of, nat_abs-is}
use Rattle.fixed_c.specs.Divide.{mul_div_or_zero}
use Rattle.fixed_c.proofs.fixed_c_mul_div.Goals as goal
use Rattle.fixed_c.proofs.fixed_c_mul_div.Goals.{Else-c-eq0}

pub returns-then-c-eq0 : goal.returns-then-c-eq0
unfolding mul_div_or_zero
returns-then-c-eq0 c =
    let d = c.args.c in
    rw (eq-eqb (nat_abs d) 0 (omega (arith, c.if-c-eq0.true, bits_of c.ranges.c, nat_abs-is d)))

some : (c : Else-c-eq0) → nat_abs c.args.c ≡ 0 → ⊥
some c e = c.if-c-eq0.false (omega (arith, bits_of c.ranges.c, nat_abs-is c.args.c))

pub fixed_mul_div-requires : goal.fixed_mul_div-requires
fixed_mul_div-requires c = rw (is c.ranges.c) (omega (arith, some c))

pub returns : goal.returns
unfolding mul_div_or_zero
returns c =
    let s = c.before.before in
    rw (ne_eqb (nat_abs s.args.c) 0 (some c.before))
    (cc (is (got w64 c.fixed_mul_div.result c.fixed_mul_div.type_inv), c.fixed_mul_div.ensures, is s.ranges.a, is s.ranges.b, is s.ranges.c))
