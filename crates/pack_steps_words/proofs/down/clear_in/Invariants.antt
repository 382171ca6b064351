-- `pack_steps_words::down::clear_in` meets its contract: place by place.
use native.Mathlib.Omega.{arith}
use mathlib.Core.Path.{refl}
use Prim.Native.Nat.{◌-◌, ◌≤◌, ◌<◌}
use Rattle.axis.specs.declared.segment.Segments.{Segments}
use Rattle.pack.proofs.Stages.{emptied, emptied-none}
use Rattle.words.specs.Field.{flags_word}
use Rattle.words.specs.Segment.{segments_in, segment_words}
use Rattle.words_segment.specs.Whole.{Became}
use Rattle.words_segment.proofs.Became.{stays, count_in}
use Rattle.words_segment.proofs.Wholes.{room}
use Rattle.pack_steps_words.proofs.Moves.{one-empty, all-empty}
use Rattle.pack_steps_words.proofs.down.clear_in.Given as goal

abbrev pub invariant-loop-i : goal.invariant-loop-i
invariant-loop-i l = (l.count ≤ l.i) × (l.i ≤ segments_in l.initial.words) × Became (λ (t : Segments). emptied l.count t l.i) l.initial.words l.words

abbrev pub decreases-loop-i : goal.decreases-loop-i
decreases-loop-i l = l.n - l.i
