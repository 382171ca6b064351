-- `gaps::find::lost_gaps` meets its contract.
use mathlib.Core.Path.{refl, sym, ap, ◌∙◌}
use native.Mathlib.Omega.{arith}
use lib.IntN.{ℤ}
use Rattle.refusals.specs.Refusal.{refusal}
use Rattle.refusals.proofs.Tests.{all_hold, answered-no, answered-yes}
use Rattle.refusals.proofs.Outcomes.{number-above, exit}
use Rattle.signed.proofs.Signed.{is}
use Rattle.axis.proofs.Acceptance.{axis-within}
use Rattle.gaps.specs.Answer.{gaps_of}
use Rattle.gaps.specs.Gaps.{gaps_tests, found_in, refused_by, lost_gaps}
use Rattle.gaps.proofs.find.lost_gaps.Goals as goal

pub returns-in_err-gaps_refusal : goal.returns-in_err-gaps_refusal
unfolding lost_gaps
returns-in_err-gaps_refusal c =
    let refused = c.in_err-gaps_refusal.ensures ∙ ap (λ (z : ℤ). refusal (gaps_tests c.args.axis z)) (is c.ranges.least) in
    ap gaps_of (exit _ _ c.from_residual.ensures.1) ∙ answered-no _ _ refused_by _ refused (number-above _)

pub find_lost-requires : goal.find_lost-requires
find_lost-requires c =
    let refused = c.in_ok-gaps_refusal.ensures ∙ ap (λ (z : ℤ). refusal (gaps_tests c.args.axis z)) (is c.ranges.least) in
    let h = all_hold (gaps_tests c.args.axis c.args.least) refl (sym refused) in
    axis-within _ h.0 h.1.1.0 h.1.1.1.0

pub returns : goal.returns
unfolding lost_gaps
returns c =
    let refused = c.in_ok-gaps_refusal.ensures ∙ ap (λ (z : ℤ). refusal (gaps_tests c.args.axis z)) (is c.ranges.least) in
    answered-yes _ _ refused_by _ _ refused (omega arith)
    (c.find_lost.ensures ∙ ap (λ (z : ℤ). found_in z c.args.linked c.args.axis) (is c.ranges.least))
