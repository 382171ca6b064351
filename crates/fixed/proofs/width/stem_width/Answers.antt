-- `fixed::width::stem_width` meets its contract.
use mathlib.Core.Path.{ap, ◌∙◌}
use mir.Syntax.{w32}
use Rattle.signed.proofs.Signed.{is, got}
use Rattle.fixed.specs.Width.{rule_holds, snapped, lifted, fitted_width}
use Rattle.fixed.proofs.Widths.{holds-is}
use Rattle.fixed.proofs.width.stem_width.Goals as goal

pub snap-requires : goal.snap-requires
unfolding rule_holds
snap-requires c = holds-is c.args.standards.now (rw c.in-Snap.is at c.requires)

pub lift-requires : goal.lift-requires
lift-requires c = tt

pub returns-in-Keep : goal.returns-in-Keep
unfolding fitted_width
returns-in-Keep c = rw c.in-Keep.is (is c.ranges.width)

pub returns-in-Snap : goal.returns-in-Snap
unfolding fitted_width
returns-in-Snap c =
    let s = c in
    rw s.in-Snap.is
    (is (got w32 c.lift.result c.lift.type_inv) ∙ c.lift.ensures
    ∙ ap lifted (is (got w32 s.snap.result s.snap.type_inv) ∙ s.snap.ensures ∙ ap (snapped _) (is s.ranges.width)))
