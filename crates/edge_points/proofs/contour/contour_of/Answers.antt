-- `edge_points::contour::contour_of` meets its contract. The invariant: the contour is one of those that are left.
use native.Mathlib.Omega.{arith}
use mathlib.Core.Path.{refl}
use Rattle.edge_points.proofs.Walks.{found_here, found-later, found_none}
use Rattle.edge_points.proofs.contour.contour_of.Goals as goal

-- the end is a number of 16 bits
pub overflow_add-result : goal.overflow_add-result
overflow_add-result c = omega (arith, c.from-last.ensures, c.type_inv.ends c.loop-end.end-index)

pub returns-then-p-last : goal.returns-then-p-last
returns-then-p-last c =
    found_here c.args.ends.now c.args.p c.loop-end.start c.loop-end.end-index c.loop-end.invariant _ c.from-last.ensures (omega arith) (omega arith)

pub overflow_add-start : goal.overflow_add-start
overflow_add-start c = omega (arith, c.from-last.ensures, c.type_inv.ends c.loop-end.end-index)

pub loop-end-preserved : goal.loop-end-preserved
loop-end-preserved c =
    found-later c.args.ends.now c.args.p c.loop-end.start c.loop-end.end-index c.loop-end.invariant _ c.from-last.ensures (omega arith) (omega arith)

pub returns : goal.returns
returns c = found_none c.args.ends.now c.args.p c.loop-end.start c.loop-end.end-index c.loop-end.invariant (omega arith)
