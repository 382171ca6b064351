-- `gaps::pair::row_from` meets its contract: the shift rounds down.
use native.Mathlib.Omega.{arith}
use mathlib.Core.Path.{ap, ◌∙◌}
use lib.IntN.{ℤ, pos, ◌+ℤ◌}
use lib.Signed.{shr_z}
use Rattle.signed.proofs.Signed.{signed, fits, is, fits-shr, back_fits}
use Rattle.gaps.specs.Gaps.{row_from}
use Rattle.gaps.proofs.pair.row_from.Goals as goal

pub overflow_add-result : goal.overflow_add-result
overflow_add-result c = let h = c.requires in fits (omega (arith, signed))

pub returns : goal.returns
unfolding row_from
returns c =
    is (fits-shr _ 64 (back_fits (overflow_add-result c))) ∙ ap (λ (z : ℤ). shr_z z 64) (is (overflow_add-result c) ∙ ap (λ (z : ℤ). z +ℤ pos 31) (is c.ranges.p))
