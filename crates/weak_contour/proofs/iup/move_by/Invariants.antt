-- `weak_contour::iup::move_by` meets its contract. The invariant: the points passed are moved.
use Rattle.weak_contour.specs.Steps.{Wrote, moved_by}
use Rattle.weak_contour.proofs.iup.move_by.Given as goal

abbrev pub invariant-loop-i : goal.invariant-loop-i
invariant-loop-i l = Wrote (moved_by l.originals l.delta) l.from l.i l.initial.currents l.currents
