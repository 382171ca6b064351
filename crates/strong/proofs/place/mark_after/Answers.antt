-- `strong::place::mark_after` meets its contract.
use borrow.Author.Rules.{rules}
use Rattle.strong.specs.Strong.{mark_after}
use Rattle.strong.proofs.place.mark_after.Goals as goal

pub returns-in-Stays : goal.returns-in-Stays
unfolding mark_after
returns-in-Stays c = rw c.in-Stays.is

pub returns-in-At : goal.returns-in-At
unfolding mark_after
returns-in-At c = rw c.in-At.is

pub returns-in-Beyond : goal.returns-in-Beyond
unfolding mark_after
returns-in-Beyond c = rw c.in-Beyond.is
