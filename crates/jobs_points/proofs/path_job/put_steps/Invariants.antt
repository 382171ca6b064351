-- `jobs_points::path_job::put_steps` is safe: what was written so far lies within the answer.
use Prim.Native.Nat.{◌≤◌}
use lib.ListN.{length}
use Rattle.jobs_points.proofs.path_job.put_steps.Given as goal

abbrev pub invariant-loop-step : goal.invariant-loop-step
invariant-loop-step l = l.at ≤ length l.initial.out
