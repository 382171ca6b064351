-- `stems::store::is_bounded` meets its contract.
use borrow.Author.Rules.{rules}
use Rattle.stems.proofs.store.is_bounded.Goals as goal

pub returns-then-plan : goal.returns-then-plan
returns-then-plan c = rw c.if-plan.true
