-- `weak::accept::ends_hold` meets its contract. The invariant: the ends hold where those that are left do, from `start` on.
use mathlib.Core.Path.{◌≡◌}
use lib.ListN.{drop}
use Rattle.weak.specs.Weak.{ends_hold}
use Rattle.weak.proofs.accept.ends_hold.Given as goal

abbrev pub invariant-loop-x : goal.invariant-loop-x
invariant-loop-x l = ends_hold 0 l.count l.ends ≡ ends_hold l.start l.count (drop l.x-index l.ends)
