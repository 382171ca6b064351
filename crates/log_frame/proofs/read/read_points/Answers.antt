-- `log_frame::read::read_points` meets its contract. The invariant: what is read so far.
use native.Mathlib.Omega.{arith}
use mathlib.Core.Path.{◌∙◌}
use mir.Syntax.{w32}
use Rattle.signed.proofs.Signed.{is, got}
use Rattle.log_frame.proofs.Rooms.{points_none, points-more, points-all}
use Rattle.log_frame.proofs.read.read_points.Goals as goal

pub loop-i-init : goal.loop-i-init
loop-i-init c = points_none _ _ _ _ _

pub overflow_mul-at : goal.overflow_mul-at
overflow_mul-at c = omega (arith, c.requires)

pub overflow_add-at : goal.overflow_add-at
overflow_add-at c = omega (arith, c.requires)

pub byte_at-requires : goal.byte_at-requires
byte_at-requires c = omega (arith, c.requires)

pub bounds-marks-i : goal.bounds-marks-i
bounds-marks-i c = omega (arith, c.requires, c.loop-i.invariant)

pub overflow_add-at-in-loop-i : goal.overflow_add-at-in-loop-i
overflow_add-at-in-loop-i c = omega (arith, c.requires)

pub number_at-requires : goal.number_at-requires
number_at-requires c = omega (arith, c.requires)

pub offset_bounds-originals-i : goal.offset_bounds-originals-i
offset_bounds-originals-i c = omega (arith, c.requires)

pub bounds-originals-i : goal.bounds-originals-i
bounds-originals-i c = omega (arith, c.requires, c.loop-i.invariant)

pub overflow_add-at-in-loop-i-2 : goal.overflow_add-at-in-loop-i-2
overflow_add-at-in-loop-i-2 c = omega (arith, c.requires)

pub number_at-requires-in-loop-i : goal.number_at-requires-in-loop-i
number_at-requires-in-loop-i c = omega (arith, c.requires)

pub offset_bounds-currents-i : goal.offset_bounds-currents-i
offset_bounds-currents-i c = omega (arith, c.requires)

pub bounds-currents-i : goal.bounds-currents-i
bounds-currents-i c = omega (arith, c.requires, c.loop-i.invariant)

pub loop-i-preserved : goal.loop-i-preserved
loop-i-preserved c = let a = c.args in
    let l = c.loop-i in
    let first = c.number_at in
    let second = c.number_at-in-loop-i in
    points-more a.line.now a.n a.originals.now a.currents.now a.marks.now l.originals l.currents l.marks l.i _ _ _ l.invariant
    (omega arith) c.requires.1
    (is (got w32 first.result first.type_inv) ∙ first.ensures) (is (got w32 second.result second.type_inv) ∙ second.ensures)
    c.byte_at.ensures

pub shape_of-originals : goal.shape_of-originals
shape_of-originals c = c.loop-i.invariant.originals_kept

pub shape_of-currents : goal.shape_of-currents
shape_of-currents c = c.loop-i.invariant.currents_kept

pub shape_of-marks : goal.shape_of-marks
shape_of-marks c = c.loop-i.invariant.marks_kept

pub returns : goal.returns
returns c = let a = c.args in
    points-all a.line.now a.n a.originals.now a.currents.now a.marks.now c.loop-i.invariant (omega arith)
