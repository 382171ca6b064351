-- `remaining_pass_words::pass::visit_all` meets its contract.
use Rattle.remaining_pass_words.proofs.Passes.{Aligning}
use Rattle.remaining_pass_words.proofs.pass.visit_all.Given as goal

abbrev pub invariant-loop-i : goal.invariant-loop-i
invariant-loop-i l = Aligning l.round l.initial.past l.n l.initial.words l.words l.past l.i
