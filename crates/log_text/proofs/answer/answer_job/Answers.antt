-- `log_text::answer::answer_job` meets its contract.
use native.Mathlib.Omega.{arith}
use mathlib.Core.Path.{ap}
use Rattle.refusals.proofs.Outcomes.{number-above}
use Rattle.log_text.specs.Answer.{refused_bytes}
use Rattle.log_text.proofs.Jobs.{puts-same, refused-put, done-put}
use Rattle.log_text.proofs.answer.answer_job.Goals as goal

pub put_refusal-requires : goal.put_refusal-requires
put_refusal-requires c = omega (arith, c.requires)

pub returns-in-Err : goal.returns-in-Err
returns-in-Err c = refused-put _ _ _ _ c.in-Err.ensures (number-above c.in-Err.refusal) (puts-same (ap refused_bytes c.from.ensures) c.put_refusal.ensures)

pub put_results-requires : goal.put_results-requires
put_results-requires c = omega (arith, c.requires)

pub returns-in-Ok : goal.returns-in-Ok
returns-in-Ok c = done-put _ _ _ _ c.in-Ok.ensures (omega arith) c.put_results.ensures
