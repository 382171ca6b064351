-- `weak_contour::contour::next_touched` meets its contract. The invariant: no point passed is touched.
use Rattle.weak_contour.specs.Steps.{Clear}
use Rattle.weak_contour.proofs.contour.next_touched.Given as goal

abbrev pub invariant-loop-i : goal.invariant-loop-i
invariant-loop-i l = Clear l.touched l.from l.i
