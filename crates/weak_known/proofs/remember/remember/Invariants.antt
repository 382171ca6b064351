-- `weak_known::remember::remember` meets its contract. The invariant: the contours passed are written.
use Rattle.weak_known.specs.Known.{before_at, behind_at}
use Rattle.weak_known.specs.Walks.{Put}
use Rattle.weak_known.proofs.Rounds.{Passed}
use Rattle.weak_known.proofs.remember.remember.Given as goal

abbrev pub invariant-loop-x : goal.invariant-loop-x
invariant-loop-x l = Passed l.touched l.ends l.s l.x-index × Put (before_at l.touched l.ends) 0 l.s l.initial.before l.before × Put (behind_at l.touched l.ends) 0 l.s l.initial.behind l.behind
