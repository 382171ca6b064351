-- `link::serif::rewritten` meets its contract: by its two tests.
use mathlib.Core.Path.{sym, ◌∙◌}
use Rattle.axis.proofs.Equal.{option-links}
use Rattle.link.specs.Pairs as P
use Rattle.link.proofs.serif.rewritten.Goals as goal

pub returns-then-eq : goal.returns-then-eq
unfolding P.rewritten
returns-then-eq c = rw (sym (option-links c.args.seg.link c.args.ix2) ∙ sym c.eq.ensures ∙ c.if-eq.true) c.as_serif.ensures

pub returns-then-eq-2 : goal.returns-then-eq-2
unfolding P.rewritten
returns-then-eq-2 c =
    rw (
      sym (option-links c.args.seg.link c.args.ix2) ∙ sym c.eq.ensures ∙ c.if-eq.false,
      sym (option-links c.args.seg.link c.args.link2_ix) ∙ sym c.eq-2.ensures ∙ c.if-eq-2.true,
    ) c.as_serif-then-eq-2.ensures

pub returns : goal.returns
unfolding P.rewritten
returns c =
    rw (
      sym (option-links c.args.seg.link c.args.ix2) ∙ sym c.eq.ensures ∙ c.if-eq.false,
      sym (option-links c.args.seg.link c.args.link2_ix) ∙ sym c.eq-2.ensures ∙ c.if-eq-2.false,
    )
