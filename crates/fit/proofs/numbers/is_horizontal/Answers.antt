-- `fit::numbers::is_horizontal` meets its contract.
use Rattle.fit.specs.Numbers.{is_horizontal}
use borrow.Author.Rules.{rules}
use Rattle.fit.proofs.numbers.is_horizontal.Goals as goal

pub returns-in-Horizontal : goal.returns-in-Horizontal
unfolding is_horizontal
returns-in-Horizontal c = rw c.in-Horizontal.is

pub returns-in-Vertical : goal.returns-in-Vertical
unfolding is_horizontal
returns-in-Vertical c = rw c.in-Vertical.is
