-- `log_frame::write::put_ends` meets its contract. The invariant: what is written so far.
use Rattle.log_frame.proofs.Composed.{EndsSofar}
use Rattle.log_frame.proofs.write.put_ends.Given as goal

abbrev pub invariant-loop-i : goal.invariant-loop-i
invariant-loop-i l = EndsSofar l.ends l.at l.initial.line l.line l.i
