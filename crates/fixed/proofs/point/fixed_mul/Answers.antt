-- `fixed::point::fixed_mul` meets its contract: the answer fits, as its caller shows.
use mathlib.Core.Path.{◌≡◌, sym, subst, ◌∙◌}
use mir.Syntax.{w32, w64}
use mir.Val.{to_z, of_z, SFits}
use Rattle.signed.proofs.Signed.{is, got}
use Rattle.fixed.specs.Point.{mul_fix}
use Rattle.signed.proofs.By.{by₂}
use Rattle.fixed.proofs.point.fixed_mul.Goals as goal
use Rattle.fixed.proofs.point.fixed_mul.Goals.{After-wide_mul}

answer-is : (c : After-wide_mul) → c.wide_mul.result ≡ mul_fix c.args.a c.args.b
answer-is c = by₂ mul_fix c.wide_mul.ensures (is c.ranges.a) (is c.ranges.b)

-- the machine reads it whole
whole : (c : After-wide_mul) → to_z w64 (of_z w64 c.wide_mul.result) ≡ mul_fix c.args.a c.args.b
whole c = is (got w64 c.wide_mul.result c.wide_mul.type_inv) ∙ answer-is c

pub overflow_cast-result : goal.overflow_cast-result
overflow_cast-result c = subst (SFits w32) (sym (whole c)) c.requires

pub returns : goal.returns
returns c = is (overflow_cast-result c) ∙ whole c
