-- `path_lay::lay::lay_path` meets its contract.
use mathlib.Core.Bool.{true}
use mathlib.Core.Path.{◌≡◌}
use lib.ListN.{length, drop}
use Rattle.path_trip.specs.Path.{points, path, path_from}
use Rattle.weak.specs.Weak.{ends_hold}
use Rattle.path_lay.specs.Laying.{lent}
use Rattle.path_lay.proofs.Lays.{Laying}
use Rattle.path_lay.proofs.lay.lay_path.Given as goal

abbrev pub invariant-loop-end : goal.invariant-loop-end
invariant-loop-end l = (ends_hold l.a (length l.xs) (drop l.end-index l.ends) ≡ true) × Laying (lent l.initial.kinds l.initial.places 0) (path (points l.xs l.ys l.marks) l.ends) (lent l.kinds l.places l.n)
    (path_from (points l.xs l.ys l.marks) l.a (drop l.end-index l.ends))
