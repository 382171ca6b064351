-- `lowercase_m::hint::hint_lowercase_m` meets its contract.
use mathlib.Core.Path.{refl, sym, ap, subst, ◌∙◌}
use native.Mathlib.Omega.{arith}
use Rattle.refusals.proofs.Tests.{all_hold, answered-no, answered-yes}
use Rattle.refusals.proofs.Outcomes.{number-above, exit}
use Rattle.axis.specs.declared.edge.Axis.{Axis}
use Rattle.axis.proofs.Acceptance.{axis-within}
use Rattle.lowercase_m.specs.Answer.{hinted_of}
use Rattle.lowercase_m.specs.M.{mTests, aligned, hinted, hint_lowercase_m}
use Rattle.lowercase_m.specs.Steps.{StemsOf}
use Rattle.lowercase_m.proofs.Places.{stems-hold}
use Rattle.lowercase_m.proofs.hint.hint_lowercase_m.Goals as goal

pub returns-in_err-m_refusal : goal.returns-in_err-m_refusal
unfolding hint_lowercase_m
returns-in_err-m_refusal c =
    ap (hinted_of c.args.axis) (exit _ _ c.from_residual.ensures.1) ∙ answered-no _ _ (hinted c.args.axis) _ c.in_err-m_refusal.ensures (number-above _)

pub align_stems-requires : goal.align_stems-requires
align_stems-requires c =
    let t = all_hold (mTests c.args.axis) refl (sym c.in_ok-m_refusal.ensures) in
    let within = axis-within _ t.0 t.1.1.0 t.1.1.1.0 in
    (within, subst (StemsOf _) (sym c.stems_of-stems.ensures) (stems-hold _ within.few t.1.0))

pub returns : goal.returns
unfolding hint_lowercase_m
returns c =
    let moved = c.align_stems.ensures ∙ ap (aligned c.args.group c.args.axis) c.stems_of-stems.ensures in
    answered-yes _ _ (hinted c.args.axis) _ _ c.in_ok-m_refusal.ensures (omega arith) (ap (λ (a : Axis). hinted a 0) moved)
