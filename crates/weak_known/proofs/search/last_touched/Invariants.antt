-- `weak_known::search::last_touched` meets its contract. The invariant: what is left is searched.
use mathlib.Core.Path.{◌≡◌}
use Prim.Native.Nat.{◌-◌, ◌≤◌}
use Rattle.weak_contour.specs.Contour.{last_touched}
use Rattle.weak_known.specs.Walks.{found_or}
use Rattle.weak_known.proofs.search.last_touched.Given as goal

abbrev pub invariant-loop-i : goal.invariant-loop-i
invariant-loop-i l = (l.s ≤ l.i) × (found_or l.e (last_touched l.touched l.s (l.e - l.s)) ≡ found_or l.e (last_touched l.touched l.s (l.i - l.s)))
