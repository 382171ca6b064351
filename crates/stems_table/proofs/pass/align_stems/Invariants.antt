-- `stems_table::pass::align_stems` meets its contract.
use Rattle.stems.proofs.Settling.{GoesSettled}
use Rattle.stems_table.proofs.pass.align_stems.Given as goal

abbrev pub invariant-loop-i : goal.invariant-loop-i
invariant-loop-i l = GoesSettled l.fallback l.mode l.standards l.n l.initial.anchor l.initial.aligned (record { axis = l.aligned; count = l.serif_count; anchor = l.anchor; trail = l.trail }) l.i
