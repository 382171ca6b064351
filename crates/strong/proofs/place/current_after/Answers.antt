-- `strong::place::current_after` meets its contract.
use borrow.Author.Rules.{rules}
use mir.Syntax.{w32}
use Rattle.signed.proofs.Signed.{is, got}
use Rattle.strong.specs.Strong.{current_after}
use Rattle.strong.proofs.place.current_after.Goals as goal

pub returns-in-Stays : goal.returns-in-Stays
unfolding current_after
returns-in-Stays c = rw c.in-Stays.is (is c.ranges.current)

pub returns-in-At : goal.returns-in-At
unfolding current_after
returns-in-At c = rw c.in-At.is (is (got w32 c.in-At.z c.in-At.known_told-1-own.given.0.1))

pub returns-in-Beyond : goal.returns-in-Beyond
unfolding current_after
returns-in-Beyond c = rw c.in-Beyond.is (is c.ranges.current)
