-- `mend_amend_words::pass::amend_segments` meets its contract: each turn alters one segment.
use Prim.Native.Nat.{◌≤◌, ◌<◌, ◌-◌}
use native.Mathlib.Omega.{arith}
use mathlib.Core.Path.{◌∙◌}
use Rattle.words.specs.Segment.{segments_in}
use Rattle.words_segment.proofs.Became.{below_in}
use Rattle.mend_amend_words.proofs.Passes.{SegmentsTo, segments-none, segments-room, segments-long, segments-more, segments-all}
use Rattle.mend_amend_words.proofs.pass.amend_segments.Given as goal

abbrev pub invariant-loop-i : goal.invariant-loop-i
invariant-loop-i l = (l.i ≤ segments_in l.initial.segments) × SegmentsTo l.edges l.next l.i l.initial.segments l.initial.room l.count l.segments l.room

abbrev pub decreases-loop-i : goal.decreases-loop-i
decreases-loop-i l = l.n - l.i
