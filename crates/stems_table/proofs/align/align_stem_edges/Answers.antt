-- `stems_table::align::align_stem_edges` meets its contract.
use Rattle.std.specs.Prelude.{None}
use mathlib.Core.Path.{refl, sym, ap, ◌∙◌}
use mathlib.Core.Bool.{true}
use Rattle.signed.proofs.Choices.{clash}
use Rattle.refusals.proofs.Tests.{all_hold, answered-no, answered-yes}
use Rattle.refusals.proofs.Outcomes.{number-above, exit}
use Rattle.axis.proofs.Acceptance.{link-below, axis-within}
use Rattle.stems.specs.Answer.{outcome_of}
use Rattle.stems.specs.Stems.{stems_tests, stems, align_stem_edges}
use native.Mathlib.Omega.{arith}
use borrow.Author.Rules.{rules}
use Rattle.stems_table.proofs.align.align_stem_edges.Goals as goal

pub returns-in_err-stems_refusal : goal.returns-in_err-stems_refusal
unfolding align_stem_edges
returns-in_err-stems_refusal c =
    ap (outcome_of c.args.axis) (exit _ _ c.from_residual.ensures.1)
    ∙ answered-no _ _ (stems 0 None c.args.axis) _ c.in_err-stems_refusal.ensures (number-above _)

pub align_stems-requires : goal.align_stems-requires
align_stems-requires c =
    let a = c.args in
    let t = all_hold (stems_tests a.axis a.top_to_bottom a.anchor a.rule a.standards.now) refl (sym c.in_ok-stems_refusal.ensures) in
    let indexed = t.1.1.1 in
    record {
      standards_value = t.1.1.0;
      axis_within = (
        axis-within a.axis t.0 indexed.0 indexed.1.1.0,
        link-below _ _ indexed.1.0,
        record { settled = λ e. absurd (clash true e refl) },
      );
    }

pub returns : goal.returns
unfolding align_stem_edges
returns c = answered-yes _ _ (stems 0 None c.args.axis) _ _ c.in_ok-stems_refusal.ensures (omega arith) c.align_stems.ensures
