-- `link::rounds::last_round` meets its contract: each turn settles one segment, and segments stay within the table.
use mathlib.Core.Path.{◌≡◌}
use Prim.Native.Nat.{◌≤◌, ◌-◌}
use Rattle.axis.specs.Limits.{most_segments}
use Rattle.link.specs.Loops.{turns}
use Rattle.link.specs.Rounds as R
use Rattle.link.proofs.rounds.last_round.Given as goal

abbrev pub invariant-loop-ix1 : goal.invariant-loop-ix1
invariant-loop-ix1 l = (l.ix1 ≤ l.count) × (l.count ≤ most_segments) × (l.table ≡ turns (R.last_turn l.thresholds) l.ix1 l.initial.table)

abbrev pub decreases-loop-ix1 : goal.decreases-loop-ix1
decreases-loop-ix1 l = l.count - l.ix1
