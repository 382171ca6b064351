-- `lowercase_m::stems::delta_of` meets its contract.
use native.Mathlib.Omega.{arith}
use Rattle.signed.proofs.Signed.{fits, is, i32, ◌also◌, signed}
use Rattle.lowercase_m.proofs.stems.delta_of.Goals as goal

pub overflow_mul-result : goal.overflow_mul-result
overflow_mul-result c = fits (omega (arith, signed))

pub overflow_sub-result : goal.overflow_sub-result
overflow_sub-result c = let k = overflow_mul-result c in fits (omega (arith, signed))

pub overflow_sub-result-2 : goal.overflow_sub-result-2
overflow_sub-result-2 c = let k = overflow_mul-result c also overflow_sub-result c in fits (omega (arith, signed))

pub returns : goal.returns
returns c =
    let f = c.ranges in
    let k = overflow_mul-result c also overflow_sub-result c also overflow_sub-result-2 c in
    (rw (is (overflow_sub-result-2 c), is (overflow_sub-result c), is (overflow_mul-result c), is f.first, is f.second, is f.third), i32 (omega (arith, signed)) tt tt)
