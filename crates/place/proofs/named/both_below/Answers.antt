-- `place::named::both_below` meets its contract.
use borrow.Author.Tests.{lt-ltb, le-ltb}
use Rattle.place.proofs.named.both_below.Goals as goal

pub returns-then-first-count : goal.returns-then-first-count
returns-then-first-count c = let s = c in rw (lt-ltb s.args.first s.args.count c.if-first-count.true)

pub returns : goal.returns
returns c = let s = c in rw (le-ltb s.args.first s.args.count c.if-first-count.false)
