-- `fixed::pixel::pix_floor` meets its contract. The shift rounds down, so 64 times it is between x - 63 and x, and no less than -2 ^ 31, a multiple of 64.
--
use native.Mathlib.Omega.{arith}
use mathlib.Core.Path.{ap, ◌∙◌}
use lib.IntN.{ℤ, pos, ◌*ℤ◌}
use lib.Signed.{shr_z}
use mir.Syntax.{w32}
use mir.Val.{SFits, to_z, of_z}
use Rattle.signed.proofs.Signed.{signed, fits, is, range, shr-law, fits-shr, back_fits}
use Rattle.fixed.specs.Pixel.{pix_floor}
use Rattle.fixed.proofs.pixel.pix_floor.Goals as goal
use Rattle.fixed.proofs.pixel.pix_floor.Goals.{Start}

shifted : (c : Start) → SFits w32 (shr_z (to_z w32 (of_z w32 c.args.x)) 64)
shifted c = fits-shr _ 64 (back_fits c.ranges.x)

pub overflow_mul-result : goal.overflow_mul-result
overflow_mul-result c =
    let s = shifted c in
    fits (omega (arith, signed, range c.ranges.x, shr-law (to_z w32 (of_z w32 c.args.x)) 64 tt))

pub returns : goal.returns
unfolding pix_floor
returns c = is (overflow_mul-result c) ∙ ap (λ (z : ℤ). z *ℤ pos 64) (is (shifted c) ∙ ap (λ (z : ℤ). shr_z z 64) (is c.ranges.x))
