-- `stems::latin::latin_plan` meets its contract.
use Rattle.std.specs.Prelude.{None, Some}
use Rattle.stems.specs.Plan.{latin_plan}
use borrow.Author.Rules.{rules}
use Rattle.stems.proofs.latin.latin_plan.Goals as goal

pub returns-in-None : goal.returns-in-None
unfolding latin_plan
returns-in-None c = rw c.in-None.is c.free_plan.ensures

pub returns-in-Some : goal.returns-in-Some
unfolding latin_plan
returns-in-Some c = rw c.in-Some.is c.anchored_plan.ensures
