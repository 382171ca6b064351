-- `build_mark::mark::forget_all` meets its contract: each turn clears one segment.
use borrow.Author.Rules.{rules}
use native.Mathlib.Omega.{arith}
use mathlib.Core.Path.{◌≡◌}
use Prim.Native.Nat.{◌≤◌, ◌-◌}
use Rattle.axis.specs.Limits.{most_segments}
use Rattle.build_mark.specs.Marks.{clear}
use Rattle.build_mark.proofs.Marking.{clear_none, clear-more, clear-done}
use Rattle.build_mark.proofs.mark.forget_all.Goals as goal

pub loop-i-init : goal.loop-i-init
loop-i-init c = (omega arith, c.requires, clear_none _)

pub offset_bounds-table-i : goal.offset_bounds-table-i
offset_bounds-table-i c = omega arith

pub bounds-table-i : goal.bounds-table-i
bounds-table-i c = omega arith

pub offset_bounds-table-i-in-loop-i : goal.offset_bounds-table-i-in-loop-i
offset_bounds-table-i-in-loop-i c = omega arith

pub bounds-table-i-in-loop-i : goal.bounds-table-i-in-loop-i
bounds-table-i-in-loop-i c = omega arith

pub overflow_step-i : goal.overflow_step-i
overflow_step-i c = omega arith

pub loop-i-smaller : goal.loop-i-smaller
loop-i-smaller c = omega arith

pub loop-i-preserved : goal.loop-i-preserved
loop-i-preserved c = let loop = c in (omega arith, loop.loop-i.invariant.1, clear-more _ _ _ _ loop.loop-i.invariant.2 c.forget.ensures)

pub returns : goal.returns
returns c = clear-done _ _ _ c.loop-i.invariant.0 c.loop-i-test.false c.loop-i.invariant.2
