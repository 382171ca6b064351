-- `stems::cjk::delta_beside` meets its contract.
use Rattle.std.specs.Prelude.{None, Some}
use Rattle.signed.proofs.Signed.{is}
use Rattle.stems.specs.Visit.{delta_beside}
use borrow.Author.Rules.{rules}
use Rattle.stems.proofs.cjk.delta_beside.Goals as goal

pub returns-in-None : goal.returns-in-None
unfolding delta_beside
returns-in-None c = rw c.in-None.is (is c.ranges.delta)

pub returns-in-Some : goal.returns-in-Some
unfolding delta_beside
returns-in-Some c = rw c.in-Some.is (is c.ranges.passed)
