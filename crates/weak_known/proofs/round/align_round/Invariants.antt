-- `weak_known::round::align_round` meets its contract. The invariant: the points passed are aligned, up to i or the contour's end.
use borrow.Author.Rules.{rules}
use native.Mathlib.Omega.{arith}
use mathlib.Core.Path.{◌≡◌, refl, ◌∙◌}
use Prim.Native.Nat.{ℕ, ◌-◌, ◌≤◌, ◌<◌}
use lib.ListN.{length, get_or}
use Rattle.weak_contour.specs.Contour.{at, refs, weak_at}
use Rattle.weak_contour.specs.Steps.{Coordinate, Wrote, GentleRefs}
use Rattle.weak_contour.proofs.Writing.{wrote_none}
use mathlib.Core.Bool.{cond}
use mathlib.Core.List.{List}
use lib.Dec.{ltb}
use lib.IntN.{ℤ}
use Rattle.weak_known.specs.Walks.{contour, Says, TwoOn}
use Rattle.weak_known.proofs.Aligning.{
  WroteTo,
  to-here,
  from-here,
  to_end,
  passed,
  by_number,
  by-other,
  both-on,
  kept-p,
  kept-q,
  to_low,
  to_high,
  stretch-gentle,
  turn-past,
}
use Rattle.weak_known.proofs.round.align_round.Given as goal

abbrev pub invariant-loop-i : goal.invariant-loop-i
invariant-loop-i l = (l.s ≤ l.i) × WroteTo (weak_at l.originals l.initial.currents l.touched (contour l.s l.e)) l.s l.e l.i l.initial.currents l.currents

abbrev pub decreases-loop-i : goal.decreases-loop-i
decreases-loop-i l = l.e - l.i
