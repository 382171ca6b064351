-- `log_frame::write::put_points` meets its contract. The invariant: what is written so far.
use native.Mathlib.Omega.{arith}
use mathlib.Core.Path.{◌≡◌, sym, subst}
use Prim.Native.Nat.{◌+◌, ◌*◌}
use lib.ListN.{get_or}
use lib.IntN.{pos}
use mir.Syntax.{w16, w32}
use mir.Val.{SFits, to_z, of_z}
use Rattle.signed.proofs.Signed.{is, got}
use Rattle.log_frame.specs.Limits.{head_size, point_size}
use Rattle.log_frame.proofs.Composed.{points_none, points-more, points-all, point-of}
use Rattle.log_frame.proofs.write.put_points.Goals as goal

pub loop-i-init : goal.loop-i-init
loop-i-init c = points_none _ _ _ _

pub overflow_mul-i : goal.overflow_mul-i
overflow_mul-i c = omega (arith, c.requires.room)

pub overflow_add-i : goal.overflow_add-i
overflow_add-i c = omega (arith, c.requires.room)

pub bounds-marks-i : goal.bounds-marks-i
bounds-marks-i c = omega (arith, c.requires.marks_length)

pub bounds-currents-i : goal.bounds-currents-i
bounds-currents-i c = omega (arith, c.requires.currents_length)

pub put_point-requires : goal.put_point-requires
put_point-requires c =
    let original-is : to_z w32 (of_z w32 (get_or c.args.originals.now c.loop-i.i (pos 0)))
    ≡ get_or c.args.originals.now c.loop-i.i (pos 0) = is (got w32 _ c.put_point-arg-in-loop-i-1.given) in
    let current-is : to_z w32 (of_z w32 (get_or c.args.currents.now c.loop-i.i (pos 0)))
    ≡ get_or c.args.currents.now c.loop-i.i (pos 0) = is (got w32 _ c.put_point-arg-in-loop-i-2-1.given) in
    let l = c.loop-i in (
      omega (arith, c.requires.room, l.invariant.kept),
      (subst (SFits w16) (sym original-is) (c.requires.originals l.i), subst (SFits w16) (sym current-is) (c.requires.currents l.i)),
    )

pub loop-i-preserved : goal.loop-i-preserved
loop-i-preserved c =
    let original-is : to_z w32 (of_z w32 (get_or c.args.originals.now c.loop-i.i (pos 0)))
    ≡ get_or c.args.originals.now c.loop-i.i (pos 0) = is (got w32 _ c.put_point-arg-in-loop-i-1.given) in
    let current-is : to_z w32 (of_z w32 (get_or c.args.currents.now c.loop-i.i (pos 0)))
    ≡ get_or c.args.currents.now c.loop-i.i (pos 0) = is (got w32 _ c.put_point-arg-in-loop-i-2-1.given) in
    let l = c.loop-i in
    let a = c.args in
    points-more a.originals.now a.currents.now a.marks.now c.requires l.invariant (omega arith)
    (point-of a.originals.now a.currents.now a.marks.now l.i l.line (head_size + point_size * l.i) original-is
    current-is c.put_point.ensures)

pub shape_of-line : goal.shape_of-line
shape_of-line c = c.loop-i.invariant.kept

pub returns : goal.returns
returns c = let a = c.args in points-all a.originals.now a.currents.now a.marks.now c.loop-i.invariant (omega arith)
