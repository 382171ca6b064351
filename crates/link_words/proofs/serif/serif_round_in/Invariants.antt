-- `link_words::serif::serif_round_in` meets its contract.
use mathlib.Core.Path.{refl}
use Prim.Native.Nat.{◌-◌}
use native.Mathlib.Omega.{arith}
use Rattle.link.specs.Rounds.{serif_turn}
use Rattle.link_words.proofs.Turns.{Turned, turns-start, turns-counted, turns-end}
use Rattle.link_words.proofs.Serifs.{near-sound, serifs-law}
use Rattle.link_words.proofs.serif.serif_round_in.Given as goal

abbrev pub invariant-loop-ix1 : goal.invariant-loop-ix1
invariant-loop-ix1 l = Turned (serif_turn l.thresholds l.count) l.count l.initial.words l.words l.ix1

abbrev pub decreases-loop-ix1 : goal.decreases-loop-ix1
decreases-loop-ix1 l = l.count - l.ix1
