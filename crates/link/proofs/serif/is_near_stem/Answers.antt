-- `link::serif::is_near_stem` meets its contract: its tests stand in their order.
use borrow.Author.Tests.{not-true, not-false}
use mathlib.Core.Path.{sym, ◌∙◌}
use mir.Syntax.{w16, w32}
use Rattle.axis.proofs.Equal.{option-unlinked}
use Rattle.link.specs.Pairs as P
use Rattle.signed.proofs.Reading.{lt_same, le-turned}
use Rattle.link.proofs.serif.is_near_stem.Goals as goal

pub returns-then-thresholds-seg1 : goal.returns-then-thresholds-seg1
unfolding P.near_stem
returns-then-thresholds-seg1 c =
    rw (le-turned w32 c.args.thresholds.dist c.args.seg1.score c.struct_told-1.given.1.0.1 c.struct_told-2-1.given.1.1.1.1.1.1.1.0.1
    c.if-thresholds-seg1.true)

pub returns-then-ne : goal.returns-then-ne
unfolding P.near_stem
returns-then-ne c =
    rw (
      le-turned w32 c.args.thresholds.dist c.args.seg1.score c.struct_told-1.given.1.0.1 c.struct_told-2-1.given.1.1.1.1.1.1.1.0.1
          c.if-thresholds-seg1.false,
      not-true _ (sym (option-unlinked c.args.link1.link c.args.ix1) ∙ sym c.ne.ensures ∙ c.if-ne.true),
    )

pub returns : goal.returns
unfolding P.near_stem
returns c =
    rw (
      le-turned w32 c.args.thresholds.dist c.args.seg1.score c.struct_told-1.given.1.0.1 c.struct_told-2-1.given.1.1.1.1.1.1.1.0.1
          c.if-thresholds-seg1.false,
      not-false _ (sym (option-unlinked c.args.link1.link c.args.ix1) ∙ sym c.ne.ensures ∙ c.if-ne.false),
    ) (lt_same w16 c.args.seg1.pos c.args.link1.pos c.struct_told-3-1.given.1.1.0.1 c.struct_told-4-1.given.1.1.0.1)
