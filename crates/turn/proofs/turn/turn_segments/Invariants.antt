-- `turn::turn::turn_segments` meets its contract: each turn fills one place.
use mathlib.Core.Path.{◌≡◌}
use Prim.Native.Nat.{◌≤◌, ◌-◌}
use Rattle.axis.specs.Limits.{most_segments}
use Rattle.turn.proofs.Places.{segments_to}
use Rattle.turn.proofs.turn.turn_segments.Given as goal

abbrev pub invariant-loop-i : goal.invariant-loop-i
invariant-loop-i l = (l.i ≤ l.n) × (l.n ≤ most_segments) × (l.turned ≡ segments_to l.count l.segments l.i)

abbrev pub decreases-loop-i : goal.decreases-loop-i
decreases-loop-i l = l.n - l.i
