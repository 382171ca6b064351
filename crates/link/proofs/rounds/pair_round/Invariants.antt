-- `link::rounds::pair_round` meets its contract: each inner turn tests one pair, and segments stay within the table.
use mathlib.Core.Path.{◌≡◌}
use Prim.Native.Nat.{◌≤◌, ◌-◌}
use Rattle.axis.specs.Limits.{most_segments}
use Rattle.link.specs.Loops.{turns}
use Rattle.link.specs.Rounds as R
use Rattle.link.proofs.Kept.{Every}
use Rattle.link.proofs.Within.{Within}
use Rattle.link.proofs.rounds.pair_round.Given as goal

abbrev pub invariant-loop-ix2 : goal.invariant-loop-ix2
invariant-loop-ix2 l = (l.ix2 ≤ l.count) × (l.count ≤ most_segments) × (l.table ≡ turns (R.pair_turn l.thresholds l.before l.ix1) l.ix2 l.initial.table) × Every l.count (Within l.count) l.table

abbrev pub decreases-loop-ix2 : goal.decreases-loop-ix2
decreases-loop-ix2 l = l.count - l.ix2

abbrev pub invariant-loop-ix1 : goal.invariant-loop-ix1
invariant-loop-ix1 l = (l.ix1 ≤ l.count) × (l.count ≤ most_segments) × (l.table ≡ turns (R.major_turn l.major_dir l.thresholds l.count) l.ix1 l.initial.table) × Every l.count (Within l.count) l.table

abbrev pub decreases-loop-ix1 : goal.decreases-loop-ix1
decreases-loop-ix1 l = l.count - l.ix1
