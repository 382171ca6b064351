-- `weak_contour::steep::is_between` meets its contract.
use native.Mathlib.Omega.{arith}
use mathlib.Core.Path.{refl, ◌∙◌}
use lib.Signed.{lt_z}
use Rattle.signed.proofs.Signed.{signed, is}
use Rattle.signed.proofs.By.{by₂}
use Rattle.weak_contour.proofs.Steepness.{between_low, between-rest}
use Rattle.weak_contour.proofs.steep.is_between.Goals as goal

pub returns-then-v-v1 : goal.returns-then-v-v1
returns-then-v-v1 c = let f = c.ranges in between_low c.args.v c.args.v1 c.args.v2 (omega (arith, signed))

pub returns : goal.returns
returns c = let f = c.ranges in
    by₂ lt_z refl (is f.v) (is f.v2) ∙ between-rest c.args.v c.args.v1 c.args.v2 (omega (arith, signed))
