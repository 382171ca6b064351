-- `zones_stems_table::align::align_blues_and_stems` meets its contract.
use Rattle.std.specs.Prelude.{None}
use mathlib.Core.Path.{refl, sym, ap, subst, ◌∙◌}
use Rattle.refusals.proofs.Tests.{AllHold, all_hold, answered-no, answered-yes}
use Rattle.refusals.proofs.Outcomes.{number-above, exit}
use Rattle.axis.specs.Accepted.{Below, AxisWithin}
use Rattle.axis.specs.Limits.{most_pos}
use Rattle.axis.proofs.Accepting.{edges-within}
use Rattle.zones.specs.Settled.{Settled}
use Rattle.zones.specs.Answer.{Anchored}
use Rattle.stems.specs.Answer.{outcome_of}
use Rattle.stems.specs.Stems.{stems, stems_of, mode_of}
use Rattle.zones_stems.specs.Joined.{joined_tests, align_blues_and_stems}
use Rattle.zones_stems.proofs.Rows.{edges, zoned-edges, zoned-anchor, in_a_row}
use Rattle.zones_stems.proofs.Unreached.{zoned-settled}
use native.Mathlib.Omega.{arith}
use borrow.Author.Rules.{rules}
use Rattle.zones_stems_table.proofs.align.align_blues_and_stems.Goals as goal

pub returns-in_err-joined_refusal : goal.returns-in_err-joined_refusal
unfolding align_blues_and_stems
returns-in_err-joined_refusal c =
    ap (outcome_of c.args.axis) (exit _ _ c.from_residual.ensures.1)
    ∙ answered-no _ _ (stems 0 None c.args.axis) _ c.in_err-joined_refusal.ensures (number-above _)

-- ---- what acceptance yields
pub returns : goal.returns
unfolding align_blues_and_stems
returns c =
    let a = c.args in
    let ts = joined_tests a.axis a.group a.top_to_bottom a.rule a.standards.now in
    let h : AllHold ts = all_hold ts refl (sym c.in_ok-joined_refusal.ensures) in
    answered-yes _ _ (stems 0 None a.axis) _ _ c.in_ok-joined_refusal.ensures (omega arith)
    (c.align_stems.ensures
    ∙ ap (λ (r : Anchored). stems_of (mode_of a.axis a.group a.stem_adjust a.rule) a.standards.now r.anchor r.axis)
    c.align_where_zoned-zoned.ensures
    ∙ in_a_row a.axis a.group a.stem_adjust a.top_to_bottom a.rule a.standards.now h)

pub align_where_zoned-zoned-requires : goal.align_where_zoned-zoned-requires
align_where_zoned-zoned-requires c =
    let a = c.args in
    let ts = joined_tests a.axis a.group a.top_to_bottom a.rule a.standards.now in
    let h : AllHold ts = all_hold ts refl (sym c.in_ok-joined_refusal.ensures) in
    record {
      standards_value = h.1.1.0;
      axis_within = edges-within a.axis (edges a.axis a.group a.stem_adjust a.top_to_bottom a.rule a.standards.now h);
    }

pub align_stems-requires : goal.align_stems-requires
align_stems-requires c =
    let a = c.args in
    let ts = joined_tests a.axis a.group a.top_to_bottom a.rule a.standards.now in
    let h : AllHold ts = all_hold ts refl (sym c.in_ok-joined_refusal.ensures) in
    let found = sym c.align_where_zoned-zoned.ensures in
    let zoned = zoned-edges a.axis a.group a.stem_adjust a.top_to_bottom a.rule a.standards.now h in
    let anchor = zoned-anchor a.axis a.group a.stem_adjust a.top_to_bottom a.rule a.standards.now h in
    let settled = zoned-settled a.axis a.group a.stem_adjust a.top_to_bottom a.rule a.standards.now h in
    record {
      standards_value = h.1.1.0;
      axis_within = (
        subst (λ (r : Anchored). AxisWithin most_pos r.axis) found (edges-within _ zoned),
        subst (λ (r : Anchored). Below r.axis.len r.anchor) found anchor,
        record { settled = λ e. subst (λ (r : Anchored). Settled r.axis.len r.axis) found settled },
      );
    }
