-- `gaps::find::find_lost` meets its contract: each turn adds the pair that an edge ends.
use Prim.Native.Nat.{◌-◌}
use Rattle.gaps.specs.Answer.{found_of}
use Rattle.gaps.proofs.Turns.{Searched}
use Rattle.gaps.proofs.find.find_lost.Given as goal

abbrev pub invariant-loop-i : goal.invariant-loop-i
invariant-loop-i l = Searched l.least l.linked l.axis l.i l.last (found_of l.found)
