-- `remaining_words::copied::copy` meets its contract.
use Prim.Native.Nat.{◌-◌}
use Rattle.remaining_words.proofs.Copying.{Copied}
use Rattle.remaining_words.proofs.copied.copy.Given as goal

abbrev pub invariant-loop-i : goal.invariant-loop-i
invariant-loop-i l = Copied l.from l.initial.to l.n l.to l.i

abbrev pub decreases-loop-i : goal.decreases-loop-i
decreases-loop-i l = l.n - l.i
