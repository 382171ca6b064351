-- `weak_known::write::prior_write` meets its contract. The invariant: the entries passed are written.
use mathlib.Core.Path.{◌≡◌}
use Prim.Native.Nat.{◌-◌}
use Rattle.weak_contour.specs.Contour.{last_touched}
use Rattle.weak_known.specs.Walks.{prior_at, found_or, Put}
use Rattle.weak_known.proofs.write.prior_write.Given as goal

abbrev pub invariant-loop-i : goal.invariant-loop-i
invariant-loop-i l = Put (prior_at l.touched l.s l.last) l.s l.i l.initial.list l.list × (l.held ≡ found_or l.last (last_touched l.touched l.s (l.i - l.s)))
