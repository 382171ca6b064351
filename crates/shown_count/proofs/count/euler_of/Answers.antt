-- `shown_count::count::euler_of` meets its contract.
use native.Mathlib.Omega.{arith}
use Rattle.signed.proofs.Signed.{signed, fits, same, ◌also◌}
use Rattle.shown_count.proofs.count.euler_of.Goals as goal

pub overflow_cast-result : goal.overflow_cast-result
overflow_cast-result c = fits (omega (arith, signed))

pub overflow_cast-result-2 : goal.overflow_cast-result-2
overflow_cast-result-2 c = fits (omega (arith, signed))

pub overflow_sub-result : goal.overflow_sub-result
overflow_sub-result c = let a = overflow_cast-result c also overflow_cast-result-2 c in fits (omega (arith, signed))

pub returns : goal.returns
returns c = let a = overflow_cast-result c also overflow_cast-result-2 c in let k = overflow_sub-result c in same (omega (arith, signed))
