-- `build_join::rules::limit_behind` meets its contract: by the group.
use borrow.Author.Rules.{rules}
use Rattle.build_join.proofs.rules.limit_behind.Goals as goal

pub returns-then-cjk : goal.returns-then-cjk
returns-then-cjk c = rw c.if-cjk.true c.distance_to.ensures

pub returns : goal.returns
returns c = rw c.if-cjk.false
