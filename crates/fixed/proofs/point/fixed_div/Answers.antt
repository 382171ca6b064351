-- `fixed::point::fixed_div` meets its contract: the quotient where its magnitude is an answer's, and else too steep.
use Rattle.std.specs.Prelude.{Some}
use native.Mathlib.Omega.{arith}
use mathlib.Core.Path.{◌≡◌, sym, ap, subst, ◌∙◌}
use Prim.Native.Nat.{◌*◌}
use lib.IntN.{nat_abs}
use mir.Syntax.{w32, w64}
use mir.Val.{SFits, to_z, of_z}
use Rattle.signed.proofs.Signed.{signed, fits, is, got, range, fits-in}
use Rattle.signed.proofs.By.{by₂, by₃}
use Rattle.fixed.specs.Point.{rounded, div_fix}
use Rattle.fixed.specs.Steps.{signed_like}
use Rattle.fixed.proofs.Rounding.{div-sign}
use Rattle.fixed.proofs.Quotients.{steep-of, not-steep-of, quotient_fits}
use Rattle.fixed.proofs.point.fixed_div.Goals as goal
use Rattle.fixed.proofs.point.fixed_div.Goals.{After-quotient_size-size, After-with_sign-answer}

pub quotient_size-size-requires : goal.quotient_size-size-requires
quotient_size-size-requires c = rw (is c.ranges.b) c.requires

-- the magnitude of the quotient
size_is : (c : After-quotient_size-size) → c.quotient_size-size.result ≡ rounded (nat_abs c.args.a * 65536) (nat_abs c.args.b)
size_is c = by₂ rounded c.quotient_size-size.ensures (ap (λ z. nat_abs z * 65536) (is c.ranges.a)) (ap nat_abs (is c.ranges.b))

pub returns-then-size-gt-MOST_QUOTIENT : goal.returns-then-size-gt-MOST_QUOTIENT
returns-then-size-gt-MOST_QUOTIENT c = let s = c.before.before in steep-of s.args.a s.args.b _ s.requires (size_is c.before) (omega arith)

-- both in 64 bits
pub overflow_cast-a : goal.overflow_cast-a
overflow_cast-a c = fits (omega (arith, signed, range c.ranges.a))

pub overflow_cast-b : goal.overflow_cast-b
overflow_cast-b c = fits (omega (arith, signed, range c.ranges.b))

pub with_sign-answer-requires : goal.with_sign-answer-requires
with_sign-answer-requires c = omega arith

-- the quotient, as the code has it in 64 bits
whole : (c : After-with_sign-answer) → to_z w64 (of_z w64 c.with_sign-answer.result) ≡ div_fix c.args.a c.args.b
whole c =
    let s = c.before.before.before in
    is (got w64 c.with_sign-answer.result c.with_sign-answer.type_inv)
    ∙ by₃ signed_like c.with_sign-answer.ensures (size_is c.before.before) (is (overflow_cast-a c.before) ∙ is s.ranges.a) (is (overflow_cast-b c.before) ∙ is s.ranges.b)
    ∙ sym (div-sign s.args.a s.args.b s.requires)

pub overflow_cast-answer : goal.overflow_cast-answer
overflow_cast-answer c =
    let s = c.before.before.before in
    subst (SFits w32) (sym (whole c)) (fits-in w32 (quotient_fits s.args.a s.args.b _ s.requires (size_is c.before.before) (omega arith)) tt tt)

pub returns : goal.returns
returns c =
    let s = c.before.before.before in
    ap Some (is (overflow_cast-answer c) ∙ whole c) ∙ not-steep-of s.args.a s.args.b _ s.requires (size_is c.before.before) (omega arith)
