-- `shown_walk::cross_contour` meets its contract. The invariant: the lines of what is left of the walk are left to add.
use Prim.Native.Nat.{◌-◌}
use lib.ListN.{drop}
use Rattle.path_trip.specs.Path.{points}
use Rattle.path_trip.specs.Legs.{tour_of}
use Rattle.shown.specs.Shown.{contour_lines}
use Rattle.shown_lines.specs.Lines.{field_half, Near}
use Rattle.shown_lines.proofs.Winding.{Owing}
use Rattle.shown_walk.proofs.Walks.{walk_sides}
use Rattle.shown_walk.proofs.cross_contour.Given as goal

abbrev pub invariant-loop-j : goal.invariant-loop-j
invariant-loop-j l = Near l.p × Owing l.left l.y l.initial.changes (contour_lines field_half l.magnify (points l.xs l.ys l.marks) (tour_of (points l.xs l.ys l.marks) l.a (l.e - 1))) l.changes
    (walk_sides (points l.xs l.ys l.marks) l.magnify (tour_of (points l.xs l.ys l.marks) l.a (l.e - 1)).start l.p (drop l.j (tour_of (points l.xs l.ys l.marks) l.a (l.e - 1)).walk))
