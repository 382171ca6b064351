-- `log_frame::read::read_points` meets its contract. The invariant: what is read so far.
use Rattle.log_frame.proofs.Rooms.{PointsSofar}
use Rattle.log_frame.proofs.read.read_points.Given as goal

abbrev pub invariant-loop-i : goal.invariant-loop-i
invariant-loop-i l = PointsSofar l.line l.n l.initial.originals l.initial.currents l.initial.marks l.originals l.currents l.marks l.i
