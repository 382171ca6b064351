-- `link::serif::settled` meets its contract: by its two tests.
use mathlib.Core.Path.{sym, ◌∙◌}
use Rattle.axis.proofs.Equal.{option-links}
use Rattle.link.specs.Pairs as P
use Rattle.link.proofs.serif.settled.Goals as goal

pub returns-then-eq : goal.returns-then-eq
unfolding P.settled
returns-then-eq c = rw (sym (option-links c.args.seg2.link c.args.ix1) ∙ sym c.eq.ensures ∙ c.if-eq.true)

pub returns-then-stays_serif : goal.returns-then-stays_serif
unfolding P.settled
returns-then-stays_serif c =
    rw (
      sym (option-links c.args.seg2.link c.args.ix1) ∙ sym c.eq.ensures ∙ c.if-eq.false,
      sym c.stays_serif.ensures ∙ c.if-stays_serif.true,
    ) c.as_serif.ensures

pub returns : goal.returns
unfolding P.settled
returns c =
    rw (
      sym (option-links c.args.seg2.link c.args.ix1) ∙ sym c.eq.ensures ∙ c.if-eq.false,
      sym c.stays_serif.ensures ∙ c.if-stays_serif.false,
    ) c.unlinked.ensures
