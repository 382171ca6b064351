-- `path_walk::seek::path_at` meets its contract. The invariant: step `left` of the contours that are left is step k of the path.
use mathlib.Core.Bool.{true}
use mathlib.Core.Path.{◌≡◌}
use lib.ListN.{length, drop}
use Rattle.path_trip.specs.Path.{points, path, path_from}
use Rattle.weak.specs.Weak.{ends_hold}
use Rattle.path_walk.specs.Steps.{seek}
use Rattle.path_walk.proofs.seek.path_at.Given as goal

abbrev pub invariant-loop-end : goal.invariant-loop-end
invariant-loop-end l = (ends_hold l.a (length l.xs) (drop l.end-index l.ends) ≡ true) × (seek (path (points l.xs l.ys l.marks) l.ends) l.k ≡ seek
    (path_from (points l.xs l.ys l.marks) l.a (drop l.end-index l.ends)) l.left)
