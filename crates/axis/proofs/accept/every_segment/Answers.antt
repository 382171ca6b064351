-- `axis::accept::every_segment` meets its contract.
use mathlib.Core.Path.{◌≡◌, sym, ◌∙◌}
use mathlib.Core.Bool.{true}
use Prim.Native.Nat.{ℕ, ◌≤◌, ◌-◌, min}
use native.Mathlib.Omega.{arith}
use borrow.Author.Rules.{rules}
use borrow.Author.Tests.{not-true, not-false}
use Rattle.axis.specs.Limits.{most_segments}
use Rattle.axis.specs.Segment.{segment_at}
use Rattle.axis.specs.Refusals.{every, segment_passes}
use Rattle.axis.proofs.Tests.{every-none, every_more, every-fails, every-done}
use Rattle.axis.proofs.accept.every_segment.Goals as goal

pub loop-i-init : goal.loop-i-init
loop-i-init c = (omega arith, c.min-n.ensures, every-none _)

pub offset_bounds-table-i : goal.offset_bounds-table-i
offset_bounds-table-i c = omega arith

pub bounds-table-i : goal.bounds-table-i
bounds-table-i c = omega arith

pub returns-then-not-segment_passes : goal.returns-then-not-segment_passes
returns-then-not-segment_passes c = sym (every-fails _ _ _ (omega arith) (sym c.segment_passes.ensures ∙ c.if-not-segment_passes.true))

pub overflow_step-i : goal.overflow_step-i
overflow_step-i c = omega arith

pub loop-i-smaller : goal.loop-i-smaller
loop-i-smaller c = omega arith

pub loop-i-preserved : goal.loop-i-preserved
loop-i-preserved c =
    let o = c.loop-i in
    (omega arith, o.invariant.1, every_more _ _ o.invariant.2 (sym c.segment_passes.ensures ∙ c.if-not-segment_passes.false))

pub returns : goal.returns
returns c = let o = c.loop-i.invariant in every-done _ _ _ _ o.0 (omega arith) o.1 o.2
