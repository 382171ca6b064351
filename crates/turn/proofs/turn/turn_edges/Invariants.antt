-- `turn::turn::turn_edges` meets its contract: each turn fills one place.
use mathlib.Core.Path.{◌≡◌}
use Prim.Native.Nat.{◌≤◌, ◌-◌}
use Rattle.axis.specs.Limits.{most_edges}
use Rattle.turn.proofs.Places.{edges_to}
use Rattle.turn.proofs.turn.turn_edges.Given as goal

abbrev pub invariant-loop-i : goal.invariant-loop-i
invariant-loop-i l = (l.i ≤ l.count) × (l.count ≤ most_edges) × (l.turned ≡ edges_to l.axis l.i)

abbrev pub decreases-loop-i : goal.decreases-loop-i
decreases-loop-i l = l.count - l.i
