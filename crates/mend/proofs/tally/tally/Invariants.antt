-- `mend::tally::tally` meets its contract: each turn counts one segment.
use mathlib.Core.Path.{◌≡◌, refl, sym, ap, ◌∙◌}
use Prim.Native.Nat.{◌≤◌, ◌<◌, ◌-◌}
use native.Mathlib.Omega.{arith}
use borrow.Author.Rules.{rules}
use lib.ListN.{length, length-set}
use Rattle.axis.specs.Limits.{most_edges, most_segments}
use Rattle.mend.specs.Rebuilt.{Tallied}
use Rattle.mend.proofs.Tallies.{tallied-none, tallied-skip, tallied-more, tallied-few, tallied-all}
use Rattle.mend.proofs.tally.tally.Given as goal

abbrev pub invariant-loop-i : goal.invariant-loop-i
invariant-loop-i l = (l.i ≤ l.n) × (l.n ≤ most_segments) × Tallied l.edges l.i l.counts l.lows l.highs

abbrev pub decreases-loop-i : goal.decreases-loop-i
decreases-loop-i l = l.n - l.i
