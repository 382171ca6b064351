-- `pack::follow::enlist` meets its contract: number by number.
use borrow.Author.Tests.{not-true, not-false}
use native.Mathlib.Omega.{arith}
use Prim.Native.Nat.{◌-◌, ◌≤◌, ◌<◌}
use Rattle.axis.specs.Limits.{most_segments}
use Rattle.pack.proofs.Lists.{Listing, listing-few, listing-starts, listing-passes, listing-takes, listing-ends}
use Rattle.pack.proofs.follow.enlist.Given as goal

abbrev pub invariant-loop-k : goal.invariant-loop-k
invariant-loop-k l = (l.k ≤ most_segments) × Listing l.kept l.order l.len l.k

abbrev pub decreases-loop-k : goal.decreases-loop-k
decreases-loop-k l = most_segments - l.k
