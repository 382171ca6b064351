-- `link::rounds::rewrite_links` meets its contract: each turn rewrites one segment.
use mathlib.Core.Path.{◌≡◌}
use Prim.Native.Nat.{◌≤◌, ◌-◌}
use Rattle.axis.specs.Limits.{most_segments}
use Rattle.link.specs.Loops.{turns}
use Rattle.link.specs.Rounds as R
use Rattle.link.proofs.rounds.rewrite_links.Given as goal

abbrev pub invariant-loop-i : goal.invariant-loop-i
invariant-loop-i l = (l.i ≤ l.count) × (l.count ≤ most_segments) × (l.table ≡ turns (R.rewrite_turn l.ix2 l.link1_ix l.link2_ix l.ix1) l.i l.initial.table)

abbrev pub decreases-loop-i : goal.decreases-loop-i
decreases-loop-i l = l.count - l.i
