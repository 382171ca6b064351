-- `fixed_c::fixed_c_div` meets its contract: the test tells whether there is a divisor.
use native.Mathlib.Omega.{arith}
use mathlib.Core.Path.{◌≡◌}
use borrow.Author.Tests.{eq-eqb, ne_eqb}
use lib.IntN.{nat_abs}
use mir.Syntax.{w64}
use Rattle.signed.proofs.Signed.{is, got, bits_of, nat_abs-is}
use Rattle.fixed_c.specs.Divide.{div_or_zero}
use Rattle.fixed_c.proofs.fixed_c_div.Goals as goal
use Rattle.fixed_c.proofs.fixed_c_div.Goals.{Else-b-eq0}

pub returns-then-b-eq0 : goal.returns-then-b-eq0
unfolding div_or_zero
returns-then-b-eq0 c =
    let b = c.args.b in
    rw (eq-eqb (nat_abs b) 0 (omega (arith, c.if-b-eq0.true, bits_of c.ranges.b, nat_abs-is b)))

some : (c : Else-b-eq0) → nat_abs c.args.b ≡ 0 → ⊥
some c e = c.if-b-eq0.false (omega (arith, bits_of c.ranges.b, nat_abs-is c.args.b))

pub wide_div-requires : goal.wide_div-requires
wide_div-requires c = rw (is c.ranges.b) (omega (arith, some c))

pub returns : goal.returns
unfolding div_or_zero
returns c =
    let s = c.before.before in
    rw (ne_eqb (nat_abs s.args.b) 0 (some c.before))
    (cc (is (got w64 c.wide_div.result c.wide_div.type_inv), c.wide_div.ensures, is s.ranges.a, is s.ranges.b))
