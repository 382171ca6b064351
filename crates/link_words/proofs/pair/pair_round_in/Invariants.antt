-- `link_words::pair::pair_round_in` meets its contract.
use mathlib.Core.Path.{refl}
use Prim.Native.Nat.{◌-◌}
use native.Mathlib.Omega.{arith}
use Rattle.axis.specs.Accepted.{SegmentsWithin}
use Rattle.link.specs.Rounds.{major_turn}
use Rattle.words.specs.Segment.{flat_segments}
use Rattle.link_words.proofs.Turns.{Turned, turns-start, turns-counted, turns-end}
use Rattle.link_words.proofs.Pairs.{pairs-law}
use Rattle.link_words.proofs.pair.pair_round_in.Given as goal

abbrev pub invariant-loop-ix1 : goal.invariant-loop-ix1
invariant-loop-ix1 l = Turned (major_turn l.major_dir l.thresholds l.count) l.count l.initial.words l.words l.ix1 × SegmentsWithin (flat_segments l.words)

abbrev pub decreases-loop-ix1 : goal.decreases-loop-ix1
decreases-loop-ix1 l = l.count - l.ix1
