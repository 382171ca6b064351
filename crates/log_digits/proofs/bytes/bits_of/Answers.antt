-- `log_digits::bytes::bits_of` meets its contract: below zero the bits are the number and 65,536.
use native.Mathlib.Omega.{arith}
use lib.IntN.{ℤ, pos, ◌+ℤ◌}
use mir.Syntax.{w16, w32}
use mir.Val.{to_z, of_z}
use Rattle.signed.proofs.Signed.{signed, fits, range, bits_of, to-unsigned, nat_abs-is, one-zero}
use Rattle.log_digits.proofs.bytes.bits_of.Goals as goal
use Rattle.log_digits.proofs.bytes.bits_of.Goals.{Start}

abbrev plain : Start → ℤ
plain s = to_z w32 (of_z w32 s.args.number)

abbrev sum : Start → ℤ
sum s = to_z w32 (of_z w32 (plain s +ℤ pos 65536))

pub overflow_add-result : goal.overflow_add-result
overflow_add-result c = fits (omega (arith, signed, range c.ranges.number, bits_of c.requires))

pub overflow_cast-result : goal.overflow_cast-result
overflow_cast-result c =
    let a = overflow_add-result c in
    to-unsigned w16 (sum c.before) (omega (arith, signed, range c.ranges.number, bits_of c.requires))

pub returns-then-number-lt0 : goal.returns-then-number-lt0
returns-then-number-lt0 c =
    let a = overflow_add-result c in
    let z = sum c.before in
    omega (arith, signed, bits_of c.requires, nat_abs-is z, one-zero z)

pub overflow_cast-result-2 : goal.overflow_cast-result-2
overflow_cast-result-2 c = to-unsigned w16 (plain c.before) (omega (arith, signed, range c.ranges.number, bits_of c.requires))

pub returns : goal.returns
returns c =
    let z = plain c.before in
    omega (arith, signed, bits_of c.requires, nat_abs-is z, one-zero z)
