-- `log_text::text::put_results` meets its contract. The invariant: what is written so far.
use Rattle.log_text.proofs.Results.{Told}
use Rattle.log_text.proofs.text.put_results.Given as goal

abbrev pub invariant-loop-i : goal.invariant-loop-i
invariant-loop-i l = Told l.results l.initial.out l.out l.i
