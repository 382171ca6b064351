-- The promise determines the outcome.
use Rattle.std.specs.Prelude.{Result}
use mathlib.Core.Path.{◌≡◌, sym, ◌∙◌}
use mathlib.Core.Bool.{Bool}
use mathlib.Core.List.{List}
use lib.IntN.{ℤ}
use Rattle.refusals.specs.declared.order.Refusal.{Refusal}
use Rattle.fixed.specs.declared.width.WidthRule.{WidthRule}
use Rattle.axis.specs.declared.kinds.Group.{Group}
use Rattle.axis.specs.declared.edge.Axis.{Axis}
use Rattle.stems.specs.declared.outcome.Stems as Passed
use Rattle.stems.specs.Answer.{Stems, outcome_of}
use Rattle.stems.proofs.Determined.{outcome-one}
use Rattle.zones_stems.specs.Joined.{AlignsBluesAndStems}

-- two outcomes that the promise allows are the same
pub determined : (axis : Axis) (group : Group) (adjust ttb : Bool) (rule : WidthRule) (xs : List ℤ) {r₁ r₂ : Stems}
    → AlignsBluesAndStems axis group adjust ttb rule xs r₁ → AlignsBluesAndStems axis group adjust ttb rule xs r₂ → r₁ ≡ r₂
determined axis group adjust ttb rule xs h₁ h₂ = h₁ ∙ sym h₂

-- and so are two results
pub determined-result : (axis : Axis) (group : Group) (adjust ttb : Bool) (rule : WidthRule) (xs : List ℤ) {r s : Result Passed.Stems Refusal}
    → AlignsBluesAndStems axis group adjust ttb rule xs (outcome_of axis r) → AlignsBluesAndStems axis group adjust ttb rule xs (outcome_of axis s) → r ≡ s
determined-result axis group adjust ttb rule xs {r} {s} p q = outcome-one axis r s (determined axis group adjust ttb rule xs p q)
