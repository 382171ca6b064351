-- `weak_known::search::first_touched` meets its contract. The invariant: what is left is searched.
use mathlib.Core.Path.{◌≡◌}
use Prim.Native.Nat.{◌-◌}
use Rattle.weak_contour.specs.Contour.{first_touched}
use Rattle.weak_known.specs.Walks.{found_or}
use Rattle.weak_known.proofs.search.first_touched.Given as goal

abbrev pub invariant-loop-i : goal.invariant-loop-i
invariant-loop-i l = (found_or l.e (first_touched l.touched l.s (l.e - l.s)) ≡ found_or l.e (first_touched l.touched l.i (l.e - l.i)))
