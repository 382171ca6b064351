-- `edge_points::walk::move_run` meets its contract. The invariant: moving what is left gives the whole, and what is left has not moved.
use borrow.Author.Rules.{rules}
use native.Mathlib.Omega.{arith}
use mathlib.Core.Path.{sym, ap, subst, ◌∙◌}
use mathlib.Core.Bool.{Bool}
use Prim.Native.Nat.{ℕ, ◌-◌, ◌<◌}
use mir.Syntax.{w32}
use mir.Val.{SFits}
use Rattle.signed.specs.Range.{Between}
use Rattle.signed.proofs.Signed.{is, got, fits-in}
use Rattle.weak_contour.specs.Contour.{at}
use Rattle.axis.specs.declared.edge.Edge.{Edge}
use Rattle.edge_points.specs.EdgePoints.{moved_by, Points}
use Rattle.edge_points.specs.Steps.{most_reach, Room, points}
use Rattle.edge_points.proofs.Moves.{Moving, moving-starts, moving-next, moving-ends}
use Rattle.edge_points.proofs.walk.move_run.Goals as goal

pub loop-p-init : goal.loop-p-init
loop-p-init c = moving-starts _ _ _ _ _ c.requires.from_le_to.0

pub slice_copy_out-moved_by : goal.slice_copy_out-moved_by
slice_copy_out-moved_by c = omega arith

-- the current that a turn reads has not moved, and the machine reads it whole
unmoved : {snap : Bool} {e : Edge} {from to p : ℕ} {s₀ s : Points} → Moving snap e from to s₀ s p → p < to → Room s₀.currents from to
    → Between most_reach most_reach (at s.currents p)
unmoved {p = p} m h r = subst (Between most_reach most_reach) (sym (m.still p (omega arith))) (r p m.low h)

pub moved_by-u-requires : goal.moved_by-u-requires
moved_by-u-requires c =
    let k = unmoved c.loop-p.invariant c.loop-p-test.true c.requires.mover.1 in
    (c.requires.mover.0, subst (Between most_reach most_reach) (sym (is (fits-in w32 k tt tt))) k)

pub bounds-currents-p : goal.bounds-currents-p
bounds-currents-p c = omega arith

pub bounds-touched-p : goal.bounds-touched-p
bounds-touched-p c = omega arith

pub loop-p-preserved : goal.loop-p-preserved
loop-p-preserved c =
    let k = unmoved c.loop-p.invariant c.loop-p-test.true c.requires.mover.1 in
    moving-next _ c.loop-p.invariant c.loop-p-test.true
    (is (got w32 c.moved_by-u.result c.moved_by-u.type_inv) ∙ c.moved_by-u.ensures ∙ ap (moved_by c.args.snap c.args.edge) (is (fits-in w32 k tt tt)))

pub shape_of-currents : goal.shape_of-currents
shape_of-currents c = c.loop-p.invariant.currents_size

pub shape_of-touched : goal.shape_of-touched
shape_of-touched c = c.loop-p.invariant.marks_size

pub returns : goal.returns
returns c = moving-ends c.loop-p.invariant (omega arith)
