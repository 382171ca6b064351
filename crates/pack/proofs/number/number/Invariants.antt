-- `pack::number::number` meets its contract: number by number.
use borrow.Author.Rules.{rules}
use native.Mathlib.Omega.{arith}
use Prim.Native.Nat.{◌-◌, ◌≤◌}
use Rattle.axis.specs.Limits.{most_segments}
use Rattle.mend.specs.Following.{count}
use Rattle.pack.specs.Sets.{is_in}
use Rattle.pack.proofs.Lists.{Numbering, numbering-starts, numbering-few, numbering-next, numbering-ends, one_at_most}
use Rattle.pack.proofs.number.number.Given as goal

abbrev pub invariant-loop-k : goal.invariant-loop-k
invariant-loop-k l = (l.k ≤ most_segments) × Numbering l.kept l.new l.count l.k

abbrev pub decreases-loop-k : goal.decreases-loop-k
decreases-loop-k l = most_segments - l.k
