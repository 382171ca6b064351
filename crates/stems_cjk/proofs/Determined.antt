-- The promise of `hint_normal_stem_cjk` determines the answer, the delta and the axis: two outcomes that it allows coincide.
use Rattle.std.specs.Prelude.{Result}
use mathlib.Core.Path.{◌≡◌, refl, sym, ◌∙◌}
use mathlib.Core.Bool.{Bool}
use mathlib.Core.List.{List}
use Prim.Native.Nat.{ℕ}
use lib.IntN.{ℤ}
use Rattle.refusals.specs.declared.order.Refusal.{Refusal}
use Rattle.refusals.proofs.Outcomes.{with-answer-one}
use Rattle.fixed.specs.declared.width.WidthRule.{WidthRule}
use Rattle.axis.specs.declared.edge.Axis.{Axis}
use Rattle.stems_cjk.specs.declared.outcome.StemCjk as Moved
use Rattle.stems_cjk.specs.Answer.{StemCjk, outcome_of}
use Rattle.stems_cjk.specs.Hint.{HintsNormalStemCjk}

pub determined : (axis : Axis) (adjust : Bool) (rule : WidthRule) (xs : List ℤ) (i j : ℕ) (d : ℤ) {r s : StemCjk}
    → HintsNormalStemCjk axis adjust rule xs i j d r → HintsNormalStemCjk axis adjust rule xs i j d s → r ≡ s
determined axis adjust rule xs i j d p q = p ∙ sym q

-- ---- what the call hands back
-- the record tells a result from every other, beside what was given
pub outcome-one : (given : Axis) (r s : Result Moved.StemCjk Refusal) → outcome_of given r ≡ outcome_of given s → r ≡ s
outcome-one given =
    with-answer-one (outcome_of given) (λ (o : StemCjk). o.answer) (λ x. refl) (λ r. refl)
    (λ x y e. λ j. record { delta = (e j).delta; axis = (e j).axis })

-- so two results that the promise allows coincide
pub determined-result : (axis : Axis) (adjust : Bool) (rule : WidthRule) (xs : List ℤ) (i j : ℕ) (d : ℤ) {r s : Result Moved.StemCjk Refusal}
    → HintsNormalStemCjk axis adjust rule xs i j d (outcome_of axis r) → HintsNormalStemCjk axis adjust rule xs i j d (outcome_of axis s) → r ≡ s
determined-result axis adjust rule xs i j d {r} {s} p q = outcome-one axis r s (determined axis adjust rule xs i j d p q)
