-- `build_join::rules::is_short_serif` meets its contract: both products fit.
use native.Mathlib.Omega.{arith}
use Rattle.signed.proofs.Signed.{signed, fits, is}
use Rattle.build_join.proofs.rules.is_short_serif.Goals as goal

pub overflow_mul-result : goal.overflow_mul-result
overflow_mul-result c = let h = c.requires.between in fits (omega (arith, signed))

pub overflow_mul-result-2 : goal.overflow_mul-result-2
overflow_mul-result-2 c = let h = c.requires.between_2 in fits (omega (arith, signed))

pub returns : goal.returns
returns c = rw (is (overflow_mul-result c), is (overflow_mul-result-2 c), is c.ranges.height, is c.ranges.length)
