-- `link_words::pair::pairs_in` meets its contract.
use mathlib.Core.Path.{◌≡◌, refl, ap, sym, ◌∙◌}
use Prim.Native.Nat.{◌-◌, ◌<◌}
use native.Mathlib.Omega.{arith}
use lib.IntN.{pos}
use lib.Signed.{◌≤ℤ◌}
use mir.Syntax.{w32}
use mir.Val.{to_z}
use Rattle.signed.proofs.Signed.{is, got}
use Rattle.axis.specs.Accepted.{SegmentsWithin}
use Rattle.axis.specs.Segment.{segment_at}
use Rattle.link.specs.Rounds.{pair_turn}
use Rattle.words.specs.Segment.{flat_segments}
use Rattle.link_words.specs.Linking.{Alike, other_word}
use Rattle.link_words.proofs.Turns.{Turned, turns-start, turns_next, turns-end}
use Rattle.link_words.proofs.Pairs.{made_alike}
use borrow.Author.Rules.{rules}
use Rattle.link_words.proofs.pair.pairs_in.Given as goal

abbrev pub invariant-loop-ix2 : goal.invariant-loop-ix2
invariant-loop-ix2 l = (l.ix1 < l.count) × (l.other ≡ other_word l.before.dir) × (pos 0 ≤ℤ l.thresholds.len) × Turned (pair_turn l.thresholds l.before l.ix1) l.count l.initial.words l.words l.ix2
    × SegmentsWithin (flat_segments l.words) × Alike l.before (segment_at (flat_segments l.words) l.ix1)

abbrev pub decreases-loop-ix2 : goal.decreases-loop-ix2
decreases-loop-ix2 l = l.count - l.ix2
