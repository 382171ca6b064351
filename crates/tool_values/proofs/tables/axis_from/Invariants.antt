-- `tool_values::tables::axis_from` meets its contract.
use Prim.Native.Nat.{◌-◌, ◌≤◌}
use Rattle.axis.specs.Limits.{most_edges}
use Rattle.tool_values.proofs.tables.axis_from.Given as goal

abbrev pub invariant-loop-i : goal.invariant-loop-i
invariant-loop-i l = (l.i ≤ l.n) × (l.n ≤ most_edges)

abbrev pub decreases-loop-i : goal.decreases-loop-i
decreases-loop-i l = l.n - l.i
