-- `gaps_words::find::find_in` meets its contract: each turn adds the pair that an edge ends.
use Prim.Native.Nat.{◌-◌}
use Rattle.gaps.specs.Answer.{found_of}
use Rattle.gaps.proofs.Turns.{Searched}
use Rattle.words_call.specs.Lent.{edges_of}
use Rattle.gaps_words.proofs.find.find_in.Given as goal

abbrev pub invariant-loop-i : goal.invariant-loop-i
invariant-loop-i l = Searched l.least l.linked (edges_of l.words) l.i l.last (found_of l.found)
