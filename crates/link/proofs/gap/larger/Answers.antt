-- `link::gap::larger` meets its contract: by its one test.
use Rattle.signed.proofs.Signed.{is}
use Rattle.link.specs.Pairs as P
use Rattle.link.proofs.gap.larger.Goals as goal

pub returns-then-a-b : goal.returns-then-a-b
unfolding P.max_z
returns-then-a-b c = let s = c in rw (is s.ranges.b, rw (is s.ranges.a, is s.ranges.b) at c.if-a-b.true)

pub returns : goal.returns
unfolding P.max_z
returns c = let s = c in rw (is s.ranges.a, rw (is s.ranges.a, is s.ranges.b) at c.if-a-b.false)
