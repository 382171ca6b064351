-- `axis::accept::every_edge` meets its contract.
use mathlib.Core.Path.{◌≡◌, sym, ◌∙◌}
use mathlib.Core.Bool.{true}
use Prim.Native.Nat.{ℕ, ◌≤◌, ◌-◌, min}
use native.Mathlib.Omega.{arith}
use borrow.Author.Rules.{rules}
use borrow.Author.Tests.{not-true, not-false}
use Rattle.axis.specs.Limits.{most_edges}
use Rattle.axis.specs.Edge.{edge_at}
use Rattle.axis.specs.Refusals.{every, edge_passes}
use Rattle.axis.proofs.Tests.{every-none, every_more, every-fails, every-done}
use Rattle.axis.proofs.accept.every_edge.Goals as goal

pub loop-i-init : goal.loop-i-init
loop-i-init c = (omega arith, c.min-n.ensures, every-none _)

pub offset_bounds-axis-i : goal.offset_bounds-axis-i
offset_bounds-axis-i c = omega arith

pub bounds-axis-i : goal.bounds-axis-i
bounds-axis-i c = omega arith

pub returns-then-not-edge_passes : goal.returns-then-not-edge_passes
returns-then-not-edge_passes c = sym (every-fails _ _ _ (omega arith) (sym c.edge_passes.ensures ∙ c.if-not-edge_passes.true))

pub overflow_step-i : goal.overflow_step-i
overflow_step-i c = omega arith

pub loop-i-smaller : goal.loop-i-smaller
loop-i-smaller c = omega arith

pub loop-i-preserved : goal.loop-i-preserved
loop-i-preserved c =
    let o = c.loop-i in
    (omega arith, o.invariant.1, every_more _ _ o.invariant.2 (sym c.edge_passes.ensures ∙ c.if-not-edge_passes.false))

pub returns : goal.returns
returns c = let o = c.loop-i.invariant in every-done _ _ _ _ o.0 (omega arith) o.1 o.2
