-- `jobs::lent::put_edges` is safe: what was written so far lies within the answer.
use Prim.Native.Nat.{◌≤◌}
use lib.ListN.{length}
use Rattle.jobs.proofs.lent.put_edges.Given as goal

abbrev pub invariant-loop-i : goal.invariant-loop-i
invariant-loop-i l = l.here ≤ length l.out
