-- `weak_known::same::eight_same` meets its contract. The invariant: the neighbours passed are compared.
use mathlib.Core.Path.{◌≡◌}
use Rattle.weak_known.specs.Walks.{fits_at, all_from}
use Rattle.weak_known.proofs.same.eight_same.Given as goal

abbrev pub invariant-loop-k : goal.invariant-loop-k
invariant-loop-k l = (l.ok ≡ all_from (fits_at l.touched l.before l.behind) l.a l.k)
