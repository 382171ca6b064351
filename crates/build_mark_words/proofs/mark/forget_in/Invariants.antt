-- `build_mark_words::mark::forget_in` meets its contract: each turn clears one segment.
use Prim.Native.Nat.{◌-◌, ◌≤◌}
use native.Mathlib.Omega.{arith}
use Rattle.axis.specs.Limits.{most_edges}
use Rattle.axis.proofs.Acceptance.{below_none}
use Rattle.build_mark.specs.Marks.{clear}
use Rattle.words.specs.Segment.{segments_in}
use Rattle.words_segment.specs.Whole.{Became}
use Rattle.words_segment.proofs.Became.{below_in}
use Rattle.build_mark_words.proofs.Marking.{forget-start, forget-next, forget-end}
use Rattle.build_mark_words.proofs.mark.forget_in.Given as goal

abbrev pub invariant-loop-i : goal.invariant-loop-i
invariant-loop-i l = (l.i ≤ segments_in l.initial.words) × Became (clear l.i) l.initial.words l.words

abbrev pub decreases-loop-i : goal.decreases-loop-i
decreases-loop-i l = l.count - l.i
