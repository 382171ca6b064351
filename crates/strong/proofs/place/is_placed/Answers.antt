-- `strong::place::is_placed` meets its contract.
use borrow.Author.Rules.{rules}
use Rattle.strong.specs.Strong.{is_placed}
use Rattle.strong.proofs.place.is_placed.Goals as goal

pub returns-in-Stays : goal.returns-in-Stays
unfolding is_placed
returns-in-Stays c = rw c.in-Stays.is

pub returns-in-At : goal.returns-in-At
unfolding is_placed
returns-in-At c = rw c.in-At.is

pub returns-in-Beyond : goal.returns-in-Beyond
unfolding is_placed
returns-in-Beyond c = rw c.in-Beyond.is
