-- `place::place::serif_pos` meets its contract.
use mathlib.Core.Path.{◌∙◌}
use native.Mathlib.Omega.{arith}
use lib.IntN.{◌+ℤ◌, ◌-ℤ◌}
use Rattle.signed.proofs.Signed.{fits, is, signed}
use Rattle.place.specs.Placing.{serif_pos}
use Rattle.place.proofs.place.serif_pos.Goals as goal

pub overflow_sub-result : goal.overflow_sub-result
overflow_sub-result c = fits (omega (arith, signed))

pub overflow_add-result : goal.overflow_add-result
overflow_add-result c = let k = overflow_sub-result c in fits (omega (arith, signed))

pub returns : goal.returns
unfolding serif_pos
returns c = is (overflow_add-result c) ∙ λ i. is c.ranges.base_pos i +ℤ (is (overflow_sub-result c) ∙ λ j. is c.ranges.serif_opos j -ℤ is c.ranges.base_opos j) i
