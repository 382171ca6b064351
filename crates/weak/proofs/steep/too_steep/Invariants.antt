-- `weak::steep::too_steep` meets its contract. The invariant: the contours passed have no point that is too steep.
use Rattle.weak.proofs.Steepness.{Clear}
use Rattle.weak.proofs.steep.too_steep.Given as goal

abbrev pub invariant-loop-x : goal.invariant-loop-x
invariant-loop-x l = Clear l.originals l.currents l.touched l.ends l.start l.x-index
