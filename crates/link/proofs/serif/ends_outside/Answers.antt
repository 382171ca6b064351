-- `link::serif::ends_outside` meets its contract: by its two tests.
use borrow.Author.Tests.{not-true, not-false}
use mathlib.Core.Path.{sym, ◌∙◌}
use mir.Syntax.{w16}
use Rattle.signed.proofs.Reading.{le_same}
use Rattle.axis.proofs.Equal.{option-unlinked}
use Rattle.link.proofs.serif.ends_outside.Goals as goal

pub returns-then-ne : goal.returns-then-ne
returns-then-ne c = rw (not-true _ (sym (option-unlinked c.args.link2.link c.args.ix2) ∙ sym c.ne.ensures ∙ c.if-ne.true))

pub returns : goal.returns
returns c =
    rw (not-false _ (sym (option-unlinked c.args.link2.link c.args.ix2) ∙ sym c.ne.ensures ∙ c.if-ne.false))
    (le_same w16 c.args.link1.pos c.args.link2.pos c.struct_told-1.given.1.1.0.1 c.struct_told-2-1.given.1.1.0.1)
