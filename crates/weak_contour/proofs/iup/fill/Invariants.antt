-- `weak_contour::iup::fill` meets its contract. The invariant: the points passed are placed.
use Rattle.weak_contour.specs.Steps.{Wrote, spanned_at}
use Rattle.weak_contour.proofs.iup.fill.Given as goal

abbrev pub invariant-loop-i : goal.invariant-loop-i
invariant-loop-i l = Wrote (spanned_at l.originals l.span) l.from l.i l.initial.currents l.currents
