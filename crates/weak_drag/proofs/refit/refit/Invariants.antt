-- `weak_drag::refit::refit` meets its contract. The invariant: p is behind the contours passed, and nothing is written.
use mathlib.Core.Path.{◌≡◌}
use Prim.Native.Nat.{◌≤◌}
use Rattle.weak_known.proofs.Rounds.{Passed}
use Rattle.weak_drag.proofs.refit.refit.Given as goal

abbrev pub invariant-loop-x : goal.invariant-loop-x
invariant-loop-x l = (l.currents ≡ l.initial.currents) × Passed l.touched l.ends l.start l.x-index × (l.start ≤ l.p)
