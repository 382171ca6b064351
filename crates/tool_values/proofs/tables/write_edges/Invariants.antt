-- `tool_values::tables::write_edges` meets its contract.
use mathlib.Core.Path.{◌≡◌}
use Prim.Native.Nat.{◌-◌, ◌*◌, ◌≤◌}
use lib.ListN.{length}
use Rattle.axis.specs.Limits.{most_edges}
use Rattle.words.specs.Edge.{edge_size}
use Rattle.tool_values.proofs.tables.write_edges.Given as goal

abbrev pub invariant-loop-i : goal.invariant-loop-i
invariant-loop-i l = (l.i ≤ l.n) × (l.n ≤ most_edges) × (edge_size * l.n ≤ length l.out) × (length l.out ≡ length l.initial.out)

abbrev pub decreases-loop-i : goal.decreases-loop-i
decreases-loop-i l = l.n - l.i
