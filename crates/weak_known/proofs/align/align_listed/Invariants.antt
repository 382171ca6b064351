-- `weak_known::align::align_listed` meets its contract. The invariant: the contours passed are aligned, and nothing behind them is written.
use Rattle.weak.proofs.Contours.{Sofar}
use Rattle.weak_known.proofs.align.align_listed.Given as goal

abbrev pub invariant-loop-x : goal.invariant-loop-x
invariant-loop-x l = Sofar l.originals l.initial.currents l.touched l.ends l.currents l.start l.x-index
