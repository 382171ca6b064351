-- The promise of `hint_lowercase_m` determines the answer and the axis: two outcomes that it allows coincide.
use Rattle.std.specs.Prelude.{Result}
use mathlib.Core.Path.{◌≡◌, refl, sym, ◌∙◌, ap}
use Rattle.refusals.specs.declared.order.Refusal.{Refusal}
use Rattle.refusals.proofs.Outcomes.{with-answer-one}
use Rattle.axis.specs.declared.kinds.Group.{Group}
use Rattle.axis.specs.declared.edge.Axis.{Axis}
use Rattle.lowercase_m.specs.Answer.{Hinted, hinted_of}
use Rattle.lowercase_m.specs.M.{HintsLowercaseM}

pub determined : (axis : Axis) (group : Group) {r s : Hinted} → HintsLowercaseM axis group r → HintsLowercaseM axis group s → r ≡ s
determined axis group p q = p ∙ sym q

-- ---- what the call hands back
-- the record tells a result from every other, beside what was given
pub hinted-one : (given : Axis) (r s : Result Axis Refusal) → hinted_of given r ≡ hinted_of given s → r ≡ s
hinted-one given = with-answer-one (hinted_of given) (λ (h : Hinted). h.answer) (λ x. refl) (λ r. refl) (λ x y e. ap (λ (h : Hinted). h.axis) e)

-- so two results that the promise allows coincide
pub determined-result : (axis : Axis) (group : Group) {r s : Result Axis Refusal}
    → HintsLowercaseM axis group (hinted_of axis r) → HintsLowercaseM axis group (hinted_of axis s) → r ≡ s
determined-result axis group {r} {s} p q = hinted-one axis r s (determined axis group p q)
