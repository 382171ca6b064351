-- `log_digits::bytes::number_of` meets its contract: bits of the upper half stand for 65,536 less.
use borrow.Author.Rules.{rules}
use native.Mathlib.Omega.{arith}
use Prim.Native.Nat.{◌+◌, ◌*◌}
use mir.Syntax.{w16}
use Rattle.signed.proofs.Signed.{signed, fits, same, read_low, read-high, ◌also◌}
use Rattle.log_digits.specs.Digits.{number_of}
use Rattle.log_digits.proofs.bytes.number_of.Goals as goal

pub overflow_cast-bits : goal.overflow_cast-bits
overflow_cast-bits c = search rules

pub overflow_mul-bits : goal.overflow_mul-bits
overflow_mul-bits c = let k = overflow_cast-bits c in fits (omega (arith, signed))

pub overflow_cast-bits-2 : goal.overflow_cast-bits-2
overflow_cast-bits-2 c = search rules

pub overflow_add-bits : goal.overflow_add-bits
overflow_add-bits c = let k = overflow_cast-bits c also overflow_mul-bits c also overflow_cast-bits-2 c in fits (omega (arith, signed))

pub returns-then-bits-lt32768 : goal.returns-then-bits-lt32768
unfolding number_of
returns-then-bits-lt32768 c =
    let s = c.before in
    let k = overflow_cast-bits s also overflow_mul-bits s also overflow_cast-bits-2 s also overflow_add-bits s in
    let e = read_low w16 (256 * s.args.high + s.args.low) (omega (arith, signed)) in
    same (omega (arith, signed))

pub overflow_sub-result : goal.overflow_sub-result
overflow_sub-result c = let s = c.before in let k = overflow_cast-bits s also overflow_mul-bits s also overflow_cast-bits-2 s also overflow_add-bits s in fits (omega (arith, signed))

pub returns : goal.returns
unfolding number_of
returns c =
    let s = c.before in
    let k = overflow_cast-bits s also overflow_mul-bits s also overflow_cast-bits-2 s also overflow_add-bits s also overflow_sub-result c in
    let e = read-high w16 (256 * s.args.high + s.args.low) (omega (arith, signed)) in
    same (omega (arith, signed))
