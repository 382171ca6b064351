-- `weak::weak::align_contours` meets its contract. The invariant: the contours passed are aligned, and nothing behind them is written.
use Rattle.weak.proofs.Contours.{Sofar}
use Rattle.weak.proofs.weak.align_contours.Given as goal

abbrev pub invariant-loop-x : goal.invariant-loop-x
invariant-loop-x l = Sofar l.originals l.initial.currents l.touched l.ends l.currents l.start l.x-index
