-- `words_segment_test::hold::links_where` meets its contract.
use borrow.Author.Rules.{rules}
use Rattle.words_segment_test.proofs.hold.links_where.Goals as goal

pub returns-then-tested : goal.returns-then-tested
returns-then-tested c = rw c.if-tested.true c.links_to.ensures

pub returns : goal.returns
returns c = rw c.if-tested.false
