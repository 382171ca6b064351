-- `weak_known::same::plain_same` meets its contract. The invariant: the entries passed are compared.
use mathlib.Core.Path.{◌≡◌}
use Prim.Native.Nat.{◌-◌}
use Rattle.weak_known.specs.Known.{same_as}
use Rattle.weak_known.specs.Walks.{plain_at}
use Rattle.weak_known.proofs.same.plain_same.Given as goal

abbrev pub invariant-loop-i : goal.invariant-loop-i
invariant-loop-i l = (l.ok ≡ same_as l.list (plain_at l.touched l.v) l.s (l.i - l.s))
