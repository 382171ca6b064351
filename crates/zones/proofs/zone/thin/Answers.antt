-- `zones::zone::thin` meets its contract.
use Rattle.zones.specs.Steps.{thinned}
use borrow.Author.Rules.{rules}
use Rattle.zones.proofs.zone.thin.Goals as goal

pub returns-then-skipped : goal.returns-then-skipped
unfolding thinned
returns-then-skipped c = rw c.if-skipped.true c.unzone.ensures

pub returns : goal.returns
unfolding thinned
returns c = rw c.if-skipped.false
