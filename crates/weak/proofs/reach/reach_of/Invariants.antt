-- `weak::reach::reach_of` meets its contract. The invariant: the least and the largest are those of what was passed.
use Rattle.weak.proofs.Reaching.{Reached}
use Rattle.weak.proofs.reach.reach_of.Given as goal

abbrev pub invariant-loop-x : goal.invariant-loop-x
invariant-loop-x l = Reached l.list l.least l.most l.x-index
