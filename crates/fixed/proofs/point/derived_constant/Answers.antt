-- `fixed::point::derived_constant` meets its contract.
use native.Mathlib.Omega.{arith}
use mathlib.Core.Path.{ap, ◌∙◌}
use lib.IntN.{ℤ, pos, ◌*ℤ◌}
use lib.Signed.{quot_z}
use Rattle.signed.proofs.Signed.{is, fits-prod, fits-quot, back_fits}
use Rattle.fixed.specs.Point.{derived}
use Rattle.fixed.proofs.point.derived_constant.Goals as goal

pub overflow_mul-result : goal.overflow_mul-result
overflow_mul-result c = rw (is c.ranges.c, is c.ranges.units_per_em) (fits-prod c.requires.between c.requires.between_2 tt)

pub nonzero_div-result : goal.nonzero_div-result
nonzero_div-result c = (omega arith, fits-quot _ 2048 (back_fits (overflow_mul-result c)) tt)

pub returns : goal.returns
unfolding derived
returns c = is (nonzero_div-result c).1 ∙ ap (λ (z : ℤ). quot_z z (pos 2048)) (is (overflow_mul-result c) ∙ λ i. is c.ranges.c i *ℤ is c.ranges.units_per_em i)
