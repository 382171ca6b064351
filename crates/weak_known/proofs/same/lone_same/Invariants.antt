-- `weak_known::same::lone_same` meets its contract. The invariant: the weights passed are summed up.
use mathlib.Core.Path.{◌≡◌}
use Prim.Native.Nat.{◌+◌, ◌-◌}
use Rattle.weak_known.specs.Walks.{weight_at, sum_from}
use Rattle.weak_known.proofs.same.lone_same.Given as goal

abbrev pub invariant-loop-i : goal.invariant-loop-i
invariant-loop-i l = (l.sum + sum_from (weight_at l.touched l.before l.behind) l.i (l.e - l.i) ≡ sum_from (weight_at l.touched l.before l.behind) l.s (l.e - l.s))
