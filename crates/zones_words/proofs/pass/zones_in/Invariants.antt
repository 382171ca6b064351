-- `zones_words::pass::zones_in` meets its contract.
use Prim.Native.Nat.{◌-◌}
use Rattle.zones_words.proofs.Passes.{Zoning}
use Rattle.zones_words.proofs.pass.zones_in.Given as goal

abbrev pub invariant-loop-i : goal.invariant-loop-i
invariant-loop-i l = Zoning l.rule l.standards l.n l.initial.words l.words l.anchor l.i
