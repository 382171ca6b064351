-- `middle::bits::signed_of` meets its contract: bits of the upper half stand for 2 ^ 32 less.
use Rattle.std.proofs.Common.{arith, w32, rules}
use Rattle.signed.proofs.Signed.{signed, fits, same, read_low, read-high, ◌also◌}
use Rattle.middle.proofs.bits.signed_of.Goals as goal

pub overflow_cast-wide : goal.overflow_cast-wide
overflow_cast-wide c = search rules

pub overflow_cast-result : goal.overflow_cast-result
overflow_cast-result c = let k = overflow_cast-wide c.before in fits (omega (arith, signed))

pub returns-then-wide-lt2147483648 : goal.returns-then-wide-lt2147483648
returns-then-wide-lt2147483648 c =
    let k = overflow_cast-wide c.before also overflow_cast-result c in
    let e = read_low w32 c.args.bits (omega (arith, signed)) in
    same (omega (arith, signed))

pub overflow_sub-result : goal.overflow_sub-result
overflow_sub-result c = let k = overflow_cast-wide c.before in fits (omega (arith, signed))

pub overflow_cast-result-2 : goal.overflow_cast-result-2
overflow_cast-result-2 c = let k = overflow_cast-wide c.before also overflow_sub-result c in fits (omega (arith, signed))

pub returns : goal.returns
returns c =
    let k = overflow_cast-wide c.before also overflow_sub-result c also overflow_cast-result-2 c in
    let e = read-high w32 c.args.bits (omega (arith, signed)) in
    same (omega (arith, signed))
