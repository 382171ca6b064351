-- `weak_contour::iup::span_of` meets its contract.
use mathlib.Core.Path.{◌∙◌}
use mir.Syntax.{w32}
use Rattle.signed.proofs.Signed.{is, got}
use Rattle.weak_contour.specs.Steps.{slope}
use Rattle.weak_contour.proofs.Spans.{ordered-as}
use Rattle.weak_contour.proofs.iup.span_of.Goals as goal

pub slope_of-scale-requires : goal.slope_of-scale-requires
slope_of-scale-requires c = ordered-as (is c.ranges.v1) (is c.ranges.u1) (is c.ranges.v2) (is c.ranges.u2) c.requires

pub returns : goal.returns
returns c = let f = c.ranges in
    let scale = is (got w32 c.slope_of-scale.result c.slope_of-scale.type_inv) ∙ c.slope_of-scale.ensures
    ∙ λ i. slope (is f.v1 i) (is f.u1 i) (is f.v2 i) (is f.u2 i) in
    λ i. record { v1 = is f.v1 i; u1 = is f.u1 i; v2 = is f.v2 i; u2 = is f.u2 i; scale = scale i }
