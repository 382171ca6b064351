-- `path_walk::walk::contour_step` meets its contract. The invariant: step `left` of what is left of the walk is step k of the contour.
use mathlib.Core.Path.{◌≡◌}
use Prim.Native.Nat.{◌-◌}
use lib.ListN.{drop}
use Rattle.path_trip.specs.Path.{points, round_of, walked, steps_of}
use Rattle.path_walk.specs.Steps.{seek}
use Rattle.path_walk.proofs.walk.contour_step.Given as goal

abbrev pub invariant-loop-j : goal.invariant-loop-j
invariant-loop-j l = seek (steps_of (points l.xs l.ys l.marks) (round_of (points l.xs l.ys l.marks) l.a (l.e - 1))) l.k ≡ seek
    (walked (points l.xs l.ys l.marks) l.trip.start l.joined (drop l.j (round_of (points l.xs l.ys l.marks) l.a (l.e - 1)).walk)) l.left
