-- `remaining_pass_words::find::done_behind` meets its contract.
use mathlib.Core.Path.{◌≡◌}
use Prim.Native.Nat.{◌-◌}
use Rattle.words.specs.Edge.{edges_in}
use Rattle.words_call.specs.Lent.{edges_of}
use Rattle.remaining.specs.Remaining.{done_from, done_behind}
use Rattle.remaining_pass_words.proofs.find.done_behind.Given as goal

-- no edge behind edge i in front of edge k is done
abbrev pub invariant-loop-k : goal.invariant-loop-k
invariant-loop-k l = (l.n ≡ edges_in l.words) × (done_from (edges_of l.words) (l.n - l.k) l.k ≡ done_behind (edges_of l.words) l.i)
