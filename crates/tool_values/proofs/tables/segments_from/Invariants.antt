-- `tool_values::tables::segments_from` meets its contract.
use Prim.Native.Nat.{◌-◌, ◌≤◌}
use Rattle.axis.specs.Limits.{most_segments}
use Rattle.tool_values.proofs.tables.segments_from.Given as goal

abbrev pub invariant-loop-i : goal.invariant-loop-i
invariant-loop-i l = (l.i ≤ l.n) × (l.n ≤ most_segments)

abbrev pub decreases-loop-i : goal.decreases-loop-i
decreases-loop-i l = l.n - l.i
