-- `place_table::adjust::adjust_link` meets its contract.
use mathlib.Core.Path.{◌≡◌, refl, sym, ap, ◌∙◌}
use borrow.Author.Tests.{ltb-true}
use native.Mathlib.Omega.{arith}
use Rattle.refusals.proofs.Tests.{all_hold, answered-no, answered-yes}
use Rattle.refusals.proofs.Outcomes.{number-above, exit}
use Rattle.axis.proofs.Acceptance.{axis-within}
use Rattle.place.specs.Answer.{fitted_of}
use Rattle.place.specs.Fitting.{adjust_tests, fitted, adjust_link}
use Rattle.place_table.proofs.adjust.adjust_link.Goals as goal

pub returns-in_err-adjust_refusal : goal.returns-in_err-adjust_refusal
unfolding adjust_link
returns-in_err-adjust_refusal c =
    ap (fitted_of c.args.axis) (exit _ _ c.from_residual.ensures.1) ∙ answered-no _ _ (fitted c.args.axis) _ c.in_err-adjust_refusal.ensures (number-above _)

pub adjust-requires : goal.adjust-requires
adjust-requires c =
    let h = all_hold (adjust_tests c.args.axis c.args.edge c.args.top_to_bottom) refl (sym c.in_ok-adjust_refusal.ensures) in
    (axis-within _ h.0 h.1.1.0 h.1.1.1.1.0, ltb-true _ _ h.1.1.1.0)

pub returns : goal.returns
unfolding adjust_link
returns c =
    answered-yes _ _ (fitted c.args.axis) _ _ c.in_ok-adjust_refusal.ensures (omega arith) (λ i. fitted (c.adjust.ensures i) 0)
