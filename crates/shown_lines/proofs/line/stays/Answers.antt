-- `shown_lines::line::stays` meets its contract.
use borrow.Author.Tests.{ltb-true, leb-true}
use Rattle.shown_lines.specs.Lines.{below, above}
use Rattle.shown_lines.proofs.line.stays.Goals as goal

pub returns-then-a-y : goal.returns-then-a-y
returns-then-a-y c = λ e. below c.if-a-y.true (leb-true _ _ e)

pub returns : goal.returns
returns c = λ e. above c.if-a-y.false (ltb-true _ _ e)
