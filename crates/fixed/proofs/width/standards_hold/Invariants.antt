-- `fixed::width::standards_hold` meets its contract. The invariant: the list holds where what is left rises from the last standard.
use mathlib.Core.Path.{◌≡◌}
use lib.ListN.{drop}
use Rattle.fixed.specs.Width.{standards_hold, rises_from}
use Rattle.fixed.proofs.width.standards_hold.Given as goal

abbrev pub invariant-loop-standard : goal.invariant-loop-standard
invariant-loop-standard l = standards_hold l.standards ≡ rises_from l.last (drop l.standard-index l.standards)
