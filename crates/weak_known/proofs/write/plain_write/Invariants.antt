-- `weak_known::write::plain_write` meets its contract. The invariant: the entries passed are written.
use Rattle.weak_known.specs.Walks.{plain_at, Put}
use Rattle.weak_known.proofs.write.plain_write.Given as goal

abbrev pub invariant-loop-i : goal.invariant-loop-i
invariant-loop-i l = Put (plain_at l.touched l.v) l.s l.i l.initial.list l.list
