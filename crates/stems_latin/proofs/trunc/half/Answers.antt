-- `stems_latin::trunc::half` meets its contract.
use mathlib.Core.Path.{ap, ◌∙◌}
use native.Mathlib.Omega.{arith}
use lib.IntN.{ℤ, pos}
use lib.Signed.{quot_z}
use Rattle.signed.proofs.Signed.{is, fits-quot, back_fits}
use Rattle.stems_latin.proofs.trunc.half.Goals as goal

pub nonzero_div-result : goal.nonzero_div-result
nonzero_div-result c = (omega arith, fits-quot _ 2 (back_fits c.ranges.x) tt)

pub returns : goal.returns
returns c = is (fits-quot _ 2 (back_fits c.ranges.x) tt) ∙ ap (λ (z : ℤ). quot_z z (pos 2)) (is c.ranges.x)
