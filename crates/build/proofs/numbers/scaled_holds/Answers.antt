-- `build::numbers::scaled_holds` meets its contract: the product in 64 bits is the product.
use borrow.Author.Rules.{rules}
use mathlib.Core.Path.{◌≡◌, refl, ◌∙◌}
use lib.IntN.{pos, neg_ℤ}
use mir.Syntax.{w64}
use mir.Val.{to_z, of_z}
use Rattle.signed.proofs.Signed.{is, got}
use Rattle.fixed.specs.Point.{mul_fix}
use Rattle.axis.specs.Limits.{most_units}
use Rattle.axis.proofs.Tests.{inside-high, inside-low}
use Rattle.build.specs.Building.{scaled_holds}
use Rattle.signed.proofs.Reading.{cast-16, back-16}
use Rattle.build.proofs.numbers.scaled_holds.Goals as goal
use Rattle.build.proofs.numbers.scaled_holds.Goals.{After-wide_mul-scaled}

-- the product, as the code's local holds it
product : (c : After-wide_mul-scaled) → to_z w64 (of_z w64 c.wide_mul-scaled.result)
    ≡ mul_fix c.args.segment.pos c.args.scale
product c =
    let told = c.before in
    let start = told.before.before in
    is (got w64 c.wide_mul-scaled.result c.wide_mul-scaled.type_inv)
    ∙ rw (back-16 start.args.segment.pos told.struct_told-1.given.1.1.0.1, is start.ranges.scale) at c.wide_mul-scaled.ensures

pub overflow_cast-segment : goal.overflow_cast-segment
overflow_cast-segment c = cast-16 c.args.segment.pos c.struct_told-1.given.1.1.0.1

pub returns-then-scaled : goal.returns-then-scaled
unfolding scaled_holds
returns-then-scaled c = inside-high (neg_ℤ (pos most_units)) (pos most_units) _ _ _ _ refl refl (product c.before) c.if-scaled.true

pub returns : goal.returns
unfolding scaled_holds
returns c = inside-low (neg_ℤ (pos most_units)) (pos most_units) _ _ _ refl (product c.before) c.if-scaled.false
