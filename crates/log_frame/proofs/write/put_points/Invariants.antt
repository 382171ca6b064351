-- `log_frame::write::put_points` meets its contract. The invariant: what is written so far.
use Rattle.log_frame.proofs.Composed.{PointsSofar}
use Rattle.log_frame.proofs.write.put_points.Given as goal

abbrev pub invariant-loop-i : goal.invariant-loop-i
invariant-loop-i l = PointsSofar l.originals l.currents l.marks l.initial.line l.line l.i
