-- `label_print::print::show` is safe.
use Rattle.std.proofs.Common.{◌≤◌}
use Rattle.label_print.proofs.print.show.Given as goal

abbrev pub invariant-loop-byte : goal.invariant-loop-byte
invariant-loop-byte l = l.k ≤ l.byte-index
