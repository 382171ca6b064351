-- `fixed::width::nearest_place` meets its contract. The invariant: `best` is the place of the nearest of the first `i` standards.
use Prim.Native.Nat.{◌≤◌}
use lib.ListN.{length}
use Rattle.fixed.proofs.Widths.{NearestOf}
use Rattle.fixed.proofs.width.nearest_place.Given as goal

abbrev pub invariant-loop-i : goal.invariant-loop-i
invariant-loop-i l = (l.i ≤ length l.standards) × NearestOf l.i l.standards l.width l.best
