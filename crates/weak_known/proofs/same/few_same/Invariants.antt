-- `weak_known::same::few_same` meets its contract. The invariant: what is left decides.
use mathlib.Core.Path.{◌≡◌}
use Prim.Native.Nat.{suc, ◌-◌}
use Rattle.weak_known.specs.Walks.{fits_at, all_from}
use Rattle.weak_known.proofs.same.few_same.Given as goal

abbrev pub invariant-loop-i : goal.invariant-loop-i
invariant-loop-i l = (all_from (fits_at l.touched l.before l.behind) l.s (l.e - suc l.s) ≡ all_from (fits_at l.touched l.before l.behind) (l.i - 1) (l.e - l.i))
