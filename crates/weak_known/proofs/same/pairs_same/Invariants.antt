-- `weak_known::same::pairs_same` meets its contract. The invariant: the neighbours passed are compared.
use mathlib.Core.Path.{◌≡◌}
use Prim.Native.Nat.{◌+◌, ◌-◌, ◌≤◌}
use Rattle.weak_known.specs.Walks.{fits_at, all_from}
use Rattle.weak_known.proofs.same.pairs_same.Given as goal

abbrev pub invariant-loop-i : goal.invariant-loop-i
invariant-loop-i l = (l.s ≤ l.i) × (l.i ≤ l.last + 8) × (l.ok ≡ all_from (fits_at l.touched l.before l.behind) l.s (l.i - l.s))

abbrev pub decreases-loop-i : goal.decreases-loop-i
decreases-loop-i l = l.last - l.i
