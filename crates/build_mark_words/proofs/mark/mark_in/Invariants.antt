-- `build_mark_words::mark::mark_in` meets its contract: each turn marks the ring of one edge.
use mathlib.Core.Path.{◌∙◌}
use Prim.Native.Nat.{◌-◌, ◌≤◌, ◌<◌}
use native.Mathlib.Omega.{arith}
use Rattle.axis.specs.Limits.{most_edges}
use Rattle.words.specs.Segment.{segments_in}
use Rattle.words_segment.specs.Whole.{Became}
use Rattle.build_mark_words.specs.Marking.{RingsIn, walked_marks}
use Rattle.build_mark_words.proofs.Marking.{still-rings, edges-start, edges-next, edges-end}
use Rattle.build_mark_words.proofs.mark.mark_in.Given as goal

abbrev pub invariant-loop-edge_ix : goal.invariant-loop-edge_ix
invariant-loop-edge_ix l = (l.edge_ix ≤ l.count) × RingsIn (segments_in l.words) l.first l.last l.next l.count × Became (walked_marks l.first l.last l.next l.edge_ix) l.initial.words l.words

abbrev pub decreases-loop-edge_ix : goal.decreases-loop-edge_ix
decreases-loop-edge_ix l = l.count - l.edge_ix
