-- `build_mark::mark::forget_all` meets its contract: each turn clears one segment.
use borrow.Author.Rules.{rules}
use native.Mathlib.Omega.{arith}
use mathlib.Core.Path.{◌≡◌}
use Prim.Native.Nat.{◌≤◌, ◌-◌}
use Rattle.axis.specs.Limits.{most_segments}
use Rattle.build_mark.specs.Marks.{clear}
use Rattle.build_mark.proofs.Marking.{clear_none, clear-more, clear-done}
use Rattle.build_mark.proofs.mark.forget_all.Given as goal

abbrev pub invariant-loop-i : goal.invariant-loop-i
invariant-loop-i l = (l.i ≤ l.count) × (l.count ≤ most_segments) × (l.table ≡ clear l.i l.initial.table)

abbrev pub decreases-loop-i : goal.decreases-loop-i
decreases-loop-i l = l.count - l.i
