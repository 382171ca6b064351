-- `jobs::call::job_of` is safe and ends: every turn takes a digit off.
use borrow.Author.Rules.{rules}
use Prim.Native.Nat.{◌≤◌}
use Rattle.jobs.proofs.call.job_of.Given as goal

abbrev pub invariant-loop-items : goal.invariant-loop-items
invariant-loop-items l = l.items ≤ l.initial.items

abbrev pub decreases-loop-items : goal.decreases-loop-items
decreases-loop-items l = l.items
