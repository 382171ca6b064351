-- `link::rounds::serif_round` meets its contract: each inner turn holds one stem against the first, until the break.
use mathlib.Core.Path.{◌≡◌}
use Prim.Native.Nat.{◌≤◌, ◌<◌, ◌-◌}
use Rattle.axis.specs.Limits.{most_segments}
use Rattle.link.specs.Loops.{turns}
use Rattle.link.specs.Rounds as R
use Rattle.link.proofs.Holding as H
use Rattle.link.proofs.rounds.serif_round.Given as goal

abbrev pub invariant-loop-ix2 : goal.invariant-loop-ix2
invariant-loop-ix2 l = (l.ix2 ≤ l.count) × (l.count ≤ most_segments) × (l.ix1 < l.count) × (l.at1 < l.count) × H.Held l.count l.seg1 l.link1 l.ix1 l.link1_ix l.initial.table l.ix2 l.table

abbrev pub decreases-loop-ix2 : goal.decreases-loop-ix2
decreases-loop-ix2 l = l.count - l.ix2

abbrev pub invariant-loop-ix1 : goal.invariant-loop-ix1
invariant-loop-ix1 l = (l.ix1 ≤ l.count) × (l.count ≤ most_segments) × (l.table ≡ turns (R.serif_turn l.thresholds l.count) l.ix1 l.initial.table)

abbrev pub decreases-loop-ix1 : goal.decreases-loop-ix1
decreases-loop-ix1 l = l.count - l.ix1
