-- `place::bounds::upper_bound` meets its contract.
use borrow.Author.Tests.{lt-ltb, le-ltb}
use Prim.Native.Nat.{◌+◌}
use Rattle.place.specs.Placing.{upper_bound}
use borrow.Author.Rules.{rules}
use Rattle.place.proofs.bounds.upper_bound.Goals as goal

pub returns-then-axis-next : goal.returns-then-axis-next
unfolding upper_bound
returns-then-axis-next c = let s = c in rw (le-ltb (s.args.edge + 1) s.args.axis.len c.if-axis-next.true)

pub returns-then-behind : goal.returns-then-behind
unfolding upper_bound
returns-then-behind c = let o = c in let s = o in rw (lt-ltb (s.args.edge + 1) s.args.axis.len o.if-axis-next.false, c.if-behind.true)

pub returns : goal.returns
unfolding upper_bound
returns c = let o = c in let s = o in rw (lt-ltb (s.args.edge + 1) s.args.axis.len o.if-axis-next.false, c.if-behind.false)
