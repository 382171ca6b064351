-- `middle::bits::bits_of` meets its contract: below zero the bits are the number and 2 ^ 32.
use Rattle.std.proofs.Common.{ℤ, pos, ◌+ℤ◌, arith, w32, w64, to_z, of_z}
use Rattle.signed.proofs.Signed.{signed, fits, range, bits_of, to-unsigned, nat_abs-is, one-zero}
use Rattle.middle.proofs.bits.bits_of.Goals as goal
use Rattle.middle.proofs.bits.bits_of.Goals.{Start}

abbrev plain : Start → ℤ
plain s = to_z w32 (of_z w32 s.args.x)

abbrev sum : Start → ℤ
sum s = to_z w64 (of_z w64 (to_z w64 (of_z w64 (plain s)) +ℤ pos 4294967296))

pub overflow_cast-wide : goal.overflow_cast-wide
overflow_cast-wide c = fits (omega (arith, signed, range c.ranges.x))

pub overflow_add-result : goal.overflow_add-result
overflow_add-result c = let y = overflow_cast-wide c in fits (omega (arith, signed, range c.ranges.x))

pub overflow_cast-result : goal.overflow_cast-result
overflow_cast-result c =
    let y = overflow_cast-wide c in
    let a = overflow_add-result c in
    to-unsigned w32 (sum c.before) (omega (arith, signed, range c.ranges.x))

pub returns-then-x-lt0 : goal.returns-then-x-lt0
returns-then-x-lt0 c =
    let y = overflow_cast-wide c in
    let a = overflow_add-result c in
    let z = sum c.before in
    omega (arith, signed, bits_of c.ranges.x, nat_abs-is z, one-zero z)

pub overflow_cast-result-2 : goal.overflow_cast-result-2
overflow_cast-result-2 c = to-unsigned w32 (plain c.before) (omega (arith, signed, range c.ranges.x))

pub returns : goal.returns
returns c =
    let z = plain c.before in
    omega (arith, signed, bits_of c.ranges.x, nat_abs-is z, one-zero z)
