-- The promise of `align_stem_edges` determines the answer, the count, the anchor and the axis: two outcomes that it allows coincide.
use Rattle.std.specs.Prelude.{Result}
use mathlib.Core.Path.{◌≡◌, refl, sym, ◌∙◌}
use mathlib.Core.Bool.{Bool}
use mathlib.Core.List.{List}
use lib.IntN.{ℤ}
use Rattle.refusals.specs.declared.order.Refusal.{Refusal}
use Rattle.refusals.proofs.Outcomes.{with-answer-one}
use Rattle.fixed.specs.declared.width.WidthRule.{WidthRule}
use Rattle.axis.specs.declared.kinds.Group.{Group}
use Rattle.axis.specs.Link.{Link}
use Rattle.axis.specs.declared.edge.Axis.{Axis}
use Rattle.stems.specs.declared.outcome.Stems as Passed
use Rattle.stems.specs.Answer.{Stems, outcome_of}
use Rattle.stems.specs.Stems.{AlignsStemEdges}

pub determined : (axis : Axis) (group : Group) (adjust ttb : Bool) (anchor : Link) (rule : WidthRule) (xs : List ℤ) {r s : Stems}
    → AlignsStemEdges axis group adjust ttb anchor rule xs r → AlignsStemEdges axis group adjust ttb anchor rule xs s → r ≡ s
determined axis group adjust ttb anchor rule xs p q = p ∙ sym q

-- ---- what the call hands back
-- the record tells a result from every other, beside what was given
pub outcome-one : (given : Axis) (r s : Result Passed.Stems Refusal) → outcome_of given r ≡ outcome_of given s → r ≡ s
outcome-one given =
    with-answer-one (outcome_of given) (λ (o : Stems). o.answer) (λ x. refl) (λ r. refl)
    (λ x y e. λ j. record { count = (e j).count; anchor = (e j).anchor; axis = (e j).axis })

-- so two results that the promise allows coincide
pub determined-result : (axis : Axis) (group : Group) (adjust ttb : Bool) (anchor : Link) (rule : WidthRule) (xs : List ℤ) {r s : Result Passed.Stems Refusal}
    → AlignsStemEdges axis group adjust ttb anchor rule xs (outcome_of axis r) → AlignsStemEdges axis group adjust ttb anchor rule xs (outcome_of axis s)
    → r ≡ s
determined-result axis group adjust ttb anchor rule xs {r} {s} p q = outcome-one axis r s (determined axis group adjust ttb anchor rule xs p q)
