-- `middle::half_down` meets its contract.
use Rattle.std.proofs.Common.{ℤ, ap, ◌∙◌}
use lib.Signed.{shr_z}
use Rattle.signed.proofs.Signed.{is, fits-shr, back_fits}
use Rattle.middle.proofs.half_down.Goals as goal

pub returns : goal.returns
returns c = is (fits-shr _ 2 (back_fits c.ranges.x)) ∙ ap (λ (x : ℤ). shr_z x 2) (is c.ranges.x)
