-- `weak_contour::contour::align_gaps` meets its contract. The invariant: the points up to the last touched one found are aligned.
use borrow.Author.Rules.{rules}
use native.Mathlib.Omega.{arith}
use mathlib.Core.Path.{◌≡◌, ◌∙◌}
use Prim.Native.Nat.{◌+◌, ◌-◌}
use lib.ListN.{length}
use Rattle.weak_contour.specs.Steps.{Next, Upto}
use Rattle.weak_contour.proofs.Stretch.{upto-first, upto_next, at_p, at-q, gentle-gap}
use Rattle.weak_contour.proofs.contour.align_gaps.Given as goal

abbrev pub invariant-loop-next : goal.invariant-loop-next
invariant-loop-next l = Upto l.originals l.initial.currents l.touched l.first l.last l.currents × Next l.touched (l.last + 1) l.next

abbrev pub decreases-loop-next : goal.decreases-loop-next
decreases-loop-next l = length l.touched - l.last
