-- `weak_contour::steep::some_between` meets its contract. The invariant: no original passed lies between.
use mathlib.Core.Path.{◌≡◌}
use mathlib.Core.Bool.{false}
use Prim.Native.Nat.{ℕ, ◌≤◌, ◌<◌}
use Rattle.weak_contour.specs.Steps.{between_originals}
use Rattle.weak_contour.proofs.steep.some_between.Given as goal

abbrev pub invariant-loop-i : goal.invariant-loop-i
invariant-loop-i l = (j : ℕ) → l.from ≤ j → j < l.i → between_originals l.originals l.v1 l.v2 j ≡ false
