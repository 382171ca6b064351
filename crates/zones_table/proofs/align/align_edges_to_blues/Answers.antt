-- `zones_table::align::align_edges_to_blues` meets its contract.
use Rattle.std.specs.Prelude.{None}
use mathlib.Core.Path.{refl, sym, ap, ◌∙◌}
use native.Mathlib.Omega.{arith}
use Rattle.refusals.proofs.Tests.{all_hold, answered-no, answered-yes}
use Rattle.refusals.proofs.Outcomes.{number-above, exit}
use Rattle.axis.proofs.Acceptance.{axis-within}
use Rattle.zones.specs.Answer.{outcome_of}
use Rattle.zones.specs.Pass.{anchored}
use Rattle.zones.specs.Call.{blues_tests, align_edges_to_blues}
use Rattle.zones_table.proofs.align.align_edges_to_blues.Goals as goal

pub returns-in_err-blues_refusal : goal.returns-in_err-blues_refusal
unfolding align_edges_to_blues
returns-in_err-blues_refusal c =
    ap (outcome_of c.args.axis) (exit _ _ c.from_residual.ensures.1) ∙ answered-no _ _ (anchored c.args.axis None) _ c.in_err-blues_refusal.ensures (number-above _)

pub align_where_zoned-requires : goal.align_where_zoned-requires
align_where_zoned-requires c =
    let h = all_hold (blues_tests c.args.axis c.args.rule c.args.standards.now) refl (sym c.in_ok-blues_refusal.ensures) in
    record {
      standards_value = h.1.0;
      axis_within = axis-within _ h.0 h.1.1.0 h.1.1.1.0;
    }

pub returns : goal.returns
unfolding align_edges_to_blues
returns c = answered-yes _ _ (anchored c.args.axis None) _ _ c.in_ok-blues_refusal.ensures (omega arith) c.align_where_zoned.ensures
