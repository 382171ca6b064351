-- `stems_words::pass::stems_in` meets its contract.
use Rattle.stems_words.proofs.Passes.{Aligning}
use Rattle.stems_words.proofs.pass.stems_in.Given as goal

abbrev pub invariant-loop-i : goal.invariant-loop-i
invariant-loop-i l = Aligning l.fallback l.mode l.standards l.initial.past.anchor l.n l.initial.words l.words l.past l.i
