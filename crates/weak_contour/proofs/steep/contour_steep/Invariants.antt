-- `weak_contour::steep::contour_steep` meets its contract. The invariant: no point up to the last touched one found is too steep.
use borrow.Author.Rules.{rules}
use native.Mathlib.Omega.{arith}
use mathlib.Core.Path.{◌≡◌}
use Prim.Native.Nat.{◌+◌, ◌-◌, ◌≤◌}
use lib.ListN.{length}
use Rattle.weak_contour.specs.Steps.{Next}
use Rattle.weak_contour.proofs.Steepness.{Walked, walked_none, walked-first, walked_next, gap-found, behind-found, walked_all}
use Rattle.weak_contour.proofs.steep.contour_steep.Given as goal

abbrev pub invariant-loop-next : goal.invariant-loop-next
invariant-loop-next l = Walked l.originals l.currents l.touched l.first l.last × Next l.touched (l.last + 1) l.next × Next l.touched 0 l.first

abbrev pub decreases-loop-next : goal.decreases-loop-next
decreases-loop-next l = length l.touched - l.last
