-- `place::adjust::neighbour_of` meets its contract.
use Rattle.place.specs.Placing.{neighbour}
use borrow.Author.Rules.{rules}
use Rattle.place.proofs.adjust.neighbour_of.Goals as goal

pub returns-in-Prev : goal.returns-in-Prev
unfolding neighbour
returns-in-Prev c = rw c.in-Prev.is c.lower_bound.ensures

pub returns-in-Next : goal.returns-in-Next
unfolding neighbour
returns-in-Next c = rw c.in-Next.is c.upper_bound.ensures
