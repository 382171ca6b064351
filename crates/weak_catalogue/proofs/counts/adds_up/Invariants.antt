-- `weak_catalogue::counts::adds_up` meets its contract. The invariant: the counts add up to the length where those that are left add up to what remains of it.
use mathlib.Core.Path.{◌≡◌}
use lib.Dec.{eqb}
use lib.ListN.{drop}
use Rattle.weak_catalogue.specs.Catalogue.{total}
use Rattle.weak_catalogue.proofs.counts.adds_up.Given as goal

abbrev pub invariant-loop-x : goal.invariant-loop-x
invariant-loop-x l = eqb l.length (total l.counts) ≡ eqb l.left (total (drop l.x-index l.counts))
