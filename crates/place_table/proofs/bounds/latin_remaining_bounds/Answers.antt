-- `place_table::bounds::latin_remaining_bounds` meets its contract.
use Rattle.std.specs.Prelude.{None}
use mathlib.Core.Path.{◌≡◌, refl, sym, ap, ◌∙◌}
use borrow.Author.Tests.{ltb-true}
use Rattle.refusals.proofs.Tests.{all_hold, answered-no, answered-yes}
use Rattle.refusals.proofs.Outcomes.{number-above, exit}
use Rattle.axis.proofs.Acceptance.{axis-within}
use Rattle.place.specs.Answer.{bounds_of}
use Rattle.place.proofs.Reach.{in_table}
use Rattle.place.specs.Fitting.{edge_tests, bounds, latin_remaining_bounds}
use borrow.Author.Rules.{rules}
use native.Mathlib.Omega.{arith}
use Rattle.place_table.proofs.bounds.latin_remaining_bounds.Goals as goal

pub returns-in_err-edge_refusal : goal.returns-in_err-edge_refusal
unfolding latin_remaining_bounds
returns-in_err-edge_refusal c =
    ap bounds_of (exit _ _ c.from_residual.ensures.1) ∙ answered-no _ _ (bounds None None) _ c.in_err-edge_refusal.ensures (number-above _)

pub lower_bound-requires : goal.lower_bound-requires
lower_bound-requires c =
    let h = all_hold (edge_tests c.args.axis c.args.edge) refl (sym c.in_ok-edge_refusal.ensures) in
    in_table _ _ _ (axis-within _ h.0 h.1.0 h.1.1.1.0) (ltb-true _ _ h.1.1.0)

pub upper_bound-requires : goal.upper_bound-requires
upper_bound-requires c =
    let h = all_hold (edge_tests c.args.axis c.args.edge) refl (sym c.in_ok-edge_refusal.ensures) in
    (ltb-true _ _ h.1.1.0, (axis-within _ h.0 h.1.0 h.1.1.1.0).few)

pub returns : goal.returns
unfolding latin_remaining_bounds
returns c =
    answered-yes _ _ (bounds None None) _ _ c.in_ok-edge_refusal.ensures (omega arith)
    (λ i. bounds (c.lower_bound.ensures i) (c.upper_bound.ensures i) 0)
