-- `zones_table::pass::align_to_zones` meets its contract.
use Prim.Native.Nat.{◌-◌}
use Rattle.zones.proofs.TurnsPass.{Going}
use Rattle.zones_table.proofs.pass.align_to_zones.Given as goal

abbrev pub invariant-loop-i : goal.invariant-loop-i
invariant-loop-i l = Going l.rule l.standards l.n l.i l.initial.aligned l.aligned l.anchor
