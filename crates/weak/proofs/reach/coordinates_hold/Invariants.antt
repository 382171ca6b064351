-- `weak::reach::coordinates_hold` meets its contract. The invariant: the list holds where what was tested and what is left of it do.
use mathlib.Core.Bool.{◌&&◌}
use mathlib.Core.Path.{◌≡◌}
use lib.ListN.{drop}
use lib.IntN.{nat_abs}
use Rattle.weak.specs.Weak.{coordinates_hold}
use Rattle.weak.proofs.reach.coordinates_hold.Given as goal

abbrev pub invariant-loop-x : goal.invariant-loop-x
invariant-loop-x l = coordinates_hold (nat_abs l.most) l.list ≡ (l.all && coordinates_hold (nat_abs l.most) (drop l.x-index l.list))
