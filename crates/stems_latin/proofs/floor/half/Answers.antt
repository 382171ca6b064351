-- `stems_latin::floor::half` meets its contract.
use mathlib.Core.Path.{ap, ◌∙◌}
use lib.IntN.{ℤ}
use lib.Signed.{shr_z}
use Rattle.signed.proofs.Signed.{is, fits-shr, back_fits}
use Rattle.stems_latin.proofs.floor.half.Goals as goal

pub returns : goal.returns
returns c = is (fits-shr _ 2 (back_fits c.ranges.x)) ∙ ap (λ (z : ℤ). shr_z z 2) (is c.ranges.x)
