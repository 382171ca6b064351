-- `words::word::write_words` meets its contract. The invariant: what is written so far.
use mathlib.Core.Path.{◌≡◌}
use Prim.Native.Nat.{◌-◌}
use lib.ListN.{length}
use Rattle.words.proofs.Writing.{Pasted}
use Rattle.words.proofs.word.write_words.Given as goal

abbrev pub invariant-loop-i : goal.invariant-loop-i
invariant-loop-i l = Pasted l.words l.initial.out l.out l.at l.i × (l.n ≡ length l.words)

abbrev pub decreases-loop-i : goal.decreases-loop-i
decreases-loop-i l = l.n - l.i
