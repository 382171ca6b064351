-- `link::stem::can_be_stem` meets its contract: its tests stand in their order.
use borrow.Author.Tests.{eq-eqb, ne_eqb}
use mathlib.Core.Path.{sym, ◌∙◌}
use Rattle.link.specs.Pairs as P
use Rattle.link.proofs.stem.can_be_stem.Goals as goal

pub returns-then-ix1-ix2 : goal.returns-then-ix1-ix2
unfolding P.facing
returns-then-ix1-ix2 c = rw (eq-eqb _ _ c.if-ix1-ix2.true)

pub returns-then-not-opposite : goal.returns-then-not-opposite
unfolding P.facing
returns-then-not-opposite c =
    let else1 = c in
    rw (ne_eqb _ _ else1.if-ix1-ix2.false, sym c.opposite.ensures ∙ c.if-not-opposite.true)

pub returns : goal.returns
unfolding P.facing
returns c =
    let else2 = c in
    let opposite = else2 in
    let else1 = opposite in
    rw (ne_eqb _ _ else1.if-ix1-ix2.false, sym opposite.opposite.ensures ∙ else2.if-not-opposite.false) c.is_stem_gap.ensures
