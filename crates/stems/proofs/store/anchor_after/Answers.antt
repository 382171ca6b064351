-- `stems::store::anchor_after` meets its contract.
use Rattle.stems.specs.Plan.{anchor_after}
use borrow.Author.Rules.{rules}
use Rattle.stems.proofs.store.anchor_after.Goals as goal

pub returns-then-plan : goal.returns-then-plan
unfolding anchor_after
returns-then-plan c = rw c.if-plan.true

pub returns : goal.returns
unfolding anchor_after
returns c = rw c.if-plan.false
