-- `lowercase_m::hint::count_holds` meets its contract.
use borrow.Author.Tests.{eq-eqb, ne_eqb}
use Rattle.lowercase_m.proofs.hint.count_holds.Goals as goal

pub returns-then-count-eq6 : goal.returns-then-count-eq6
returns-then-count-eq6 c = rw (eq-eqb c.args.count 6 c.if-count-eq6.true)

pub returns : goal.returns
returns c = rw (ne_eqb c.args.count 6 c.if-count-eq6.false)
