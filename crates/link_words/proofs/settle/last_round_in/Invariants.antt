-- `link_words::settle::last_round_in` meets its contract.
use mathlib.Core.Path.{refl}
use Prim.Native.Nat.{◌-◌}
use native.Mathlib.Omega.{arith}
use Rattle.link.specs.Rounds.{last_turn}
use Rattle.link_words.proofs.Turns.{Turned, turns-start, turns_next, turns-end}
use Rattle.link_words.proofs.Settled.{settle-sound, lasts-law}
use Rattle.link_words.proofs.settle.last_round_in.Given as goal

abbrev pub invariant-loop-ix1 : goal.invariant-loop-ix1
invariant-loop-ix1 l = Turned (last_turn l.thresholds) l.count l.initial.words l.words l.ix1

abbrev pub decreases-loop-ix1 : goal.decreases-loop-ix1
decreases-loop-ix1 l = l.count - l.ix1
