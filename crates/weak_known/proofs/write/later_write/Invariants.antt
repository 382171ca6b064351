-- `weak_known::write::later_write` meets its contract. The invariant: the entries passed are written.
use mathlib.Core.Path.{◌≡◌}
use Prim.Native.Nat.{◌-◌, ◌≤◌}
use Rattle.weak_contour.specs.Contour.{first_touched}
use Rattle.weak_known.specs.Walks.{later_at, found_or, Put}
use Rattle.weak_known.proofs.write.later_write.Given as goal

abbrev pub invariant-loop-i : goal.invariant-loop-i
invariant-loop-i l = (l.s ≤ l.i) × Put (later_at l.touched l.e l.first) l.i l.e l.initial.list l.list × (l.held ≡ found_or l.first (first_touched l.touched l.i (l.e - l.i)))
