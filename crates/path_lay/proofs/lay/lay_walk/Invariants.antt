-- `path_lay::lay::lay_walk` meets its contract. The invariant: what is left of the walk, laid behind what is laid, gives the whole.
use mathlib.Core.Bool.{true}
use Prim.Native.Nat.{◌-◌}
use lib.ListN.{drop}
use Rattle.path_trip.specs.Path.{points, round_of, walked}
use Rattle.path_lay.specs.Laying.{lent}
use Rattle.path_lay.proofs.Lays.{Laying}
use Rattle.path_lay.proofs.lay.lay_walk.Given as goal

abbrev pub invariant-loop-j : goal.invariant-loop-j
invariant-loop-j l = Laying (lent l.initial.kinds l.initial.places l.count) (walked (points l.xs l.ys l.marks) l.trip.start true (drop 0 (round_of (points l.xs l.ys l.marks) l.a (l.e - 1)).walk))
    (lent l.kinds l.places l.n) (walked (points l.xs l.ys l.marks) l.trip.start true (drop l.j (round_of (points l.xs l.ys l.marks) l.a (l.e - 1)).walk))

abbrev pub decreases-loop-j : goal.decreases-loop-j
decreases-loop-j l = l.trip.count - l.j
