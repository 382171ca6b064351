-- `lowercase_m::stems::stems_of` meets its contract.
use borrow.Author.Tests.{eq-eqb, ne_eqb}
use Rattle.lowercase_m.proofs.stems.stems_of.Goals as goal

pub returns-then-count-eq6 : goal.returns-then-count-eq6
returns-then-count-eq6 c = rw (eq-eqb c.args.count 6 c.if-count-eq6.true)

pub returns : goal.returns
returns c = rw (ne_eqb c.args.count 6 c.if-count-eq6.false)
