-- `pack_steps_words::down::move_in` meets its contract: segment by segment.
use borrow.Author.Tests.{not-true, not-false}
use native.Mathlib.Omega.{arith}
use mathlib.Core.Path.{sym, ap, ◌∙◌}
use Prim.Native.Nat.{◌-◌, ◌≤◌, ◌<◌}
use lib.ListN.{length}
use Rattle.axis.specs.declared.segment.Segments.{Segments}
use Rattle.axis.specs.Limits.{most_segments}
use Rattle.pack.specs.Sets.{number_at}
use Rattle.pack.proofs.Stages.{stage, stage-none}
use Rattle.words.specs.Segment.{segments_in}
use Rattle.words.proofs.Segments.{segment-length}
use Rattle.words_segment.specs.Whole.{Became}
use Rattle.words_segment.proofs.Became.{stays}
use Rattle.pack_steps_words.proofs.Moves.{down-ready, new-room, down-room, one_down, none-down, all-down}
use Rattle.pack_steps_words.proofs.down.move_in.Given as goal

abbrev pub invariant-loop-i : goal.invariant-loop-i
invariant-loop-i l = (l.i ≤ segments_in l.initial.words) × Became (λ (t : Segments). stage t l.i) l.initial.words l.words

abbrev pub decreases-loop-i : goal.decreases-loop-i
decreases-loop-i l = l.n - l.i
