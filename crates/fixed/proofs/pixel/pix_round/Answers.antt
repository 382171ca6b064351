-- `fixed::pixel::pix_round` meets its contract.
use native.Mathlib.Omega.{arith}
use mathlib.Core.Path.{ap, ◌∙◌}
use lib.IntN.{ℤ, pos, ◌+ℤ◌}
use mir.Syntax.{w32}
use Rattle.signed.proofs.Signed.{signed, fits, is, got}
use Rattle.fixed.specs.Pixel.{pix_floor, pix_round}
use Rattle.fixed.proofs.pixel.pix_round.Goals as goal

pub overflow_add-x : goal.overflow_add-x
overflow_add-x c = fits (omega (arith, signed))

pub returns : goal.returns
unfolding pix_round
returns c =
    is (got w32 c.pix_floor.result c.pix_floor.type_inv) ∙ c.pix_floor.ensures
    ∙ ap pix_floor (is (overflow_add-x c.before) ∙ ap (λ (z : ℤ). z +ℤ pos 32) (is c.ranges.x))
