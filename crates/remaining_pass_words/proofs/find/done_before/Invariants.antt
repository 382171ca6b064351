-- `remaining_pass_words::find::done_before` meets its contract.
use mathlib.Core.Path.{◌≡◌}
use Rattle.words_call.specs.Lent.{edges_of}
use Rattle.remaining.specs.Remaining.{done_before}
use Rattle.remaining_pass_words.proofs.find.done_before.Given as goal

-- no edge from k on before edge i is done
abbrev pub invariant-loop-k : goal.invariant-loop-k
invariant-loop-k l = done_before (edges_of l.words) l.k ≡ done_before (edges_of l.words) l.i
