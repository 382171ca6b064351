-- The promise of `align_edges_to_blues` determines the answer, the anchor and the axis: two outcomes that it allows coincide.
use Rattle.std.specs.Prelude.{Result}
use mathlib.Core.Path.{◌≡◌, refl, sym, ◌∙◌}
use mathlib.Core.List.{List}
use lib.IntN.{ℤ}
use Rattle.refusals.specs.declared.order.Refusal.{Refusal}
use Rattle.refusals.proofs.Outcomes.{with-answer-one}
use Rattle.fixed.specs.declared.width.WidthRule.{WidthRule}
use Rattle.axis.specs.declared.kinds.Group.{Group}
use Rattle.axis.specs.declared.edge.Axis.{Axis}
use Rattle.zones.specs.declared.anchored.Anchored as Passed
use Rattle.zones.specs.Answer.{Anchored, outcome_of}
use Rattle.zones.specs.Call.{AlignsEdgesToBlues}

pub determined : (axis : Axis) (group : Group) (rule : WidthRule) (xs : List ℤ) {r s : Anchored}
    → AlignsEdgesToBlues axis group rule xs r → AlignsEdgesToBlues axis group rule xs s → r ≡ s
determined axis group rule xs p q = p ∙ sym q

-- ---- what the call hands back
-- the record tells a result from every other, beside what was given
pub outcome-one : (given : Axis) (r s : Result Passed.Anchored Refusal) → outcome_of given r ≡ outcome_of given s → r ≡ s
outcome-one given =
    with-answer-one (outcome_of given) (λ (o : Anchored). o.answer) (λ x. refl) (λ r. refl)
    (λ x y e. λ j. record { anchor = (e j).anchor; axis = (e j).axis })

-- so two results that the promise allows coincide
pub determined-result : (axis : Axis) (group : Group) (rule : WidthRule) (xs : List ℤ) {r s : Result Passed.Anchored Refusal}
    → AlignsEdgesToBlues axis group rule xs (outcome_of axis r) → AlignsEdgesToBlues axis group rule xs (outcome_of axis s) → r ≡ s
determined-result axis group rule xs {r} {s} p q = outcome-one axis r s (determined axis group rule xs p q)
