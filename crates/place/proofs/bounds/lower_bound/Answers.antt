-- `place::bounds::lower_bound` meets its contract.
use Rattle.place.proofs.Neighbours.{lower-none, lower-some}
use borrow.Author.Rules.{rules}
use Rattle.place.proofs.bounds.lower_bound.Goals as goal

pub returns-then-edge-eq0 : goal.returns-then-edge-eq0
returns-then-edge-eq0 c = lower-none _ c.if-edge-eq0.true

pub returns : goal.returns
returns c = lower-some _ c.if-edge-eq0.false
