-- `build_mark_words::mark::mark_ring_in` meets its contract: what is left of the walk gives the whole.
use mathlib.Core.Path.{◌∙◌}
use Prim.Native.Nat.{◌<◌}
use native.Mathlib.Omega.{arith}
use borrow.Author.Rules.{rules}
use lib.ListN.{length}
use Rattle.axis.specs.Limits.{most_edges, most_segments}
use Rattle.axis.specs.Ring.{walk}
use Rattle.build_join.specs.Walks.{next_in}
use Rattle.build_join.proofs.Rings.{fewer}
use Rattle.build_mark_words.proofs.Marking.{Left, left-start, left-passes, left-next, left_end}
use Rattle.build_mark_words.proofs.mark.mark_ring_in.Given as goal

abbrev pub invariant-loop-ix : goal.invariant-loop-ix
invariant-loop-ix l = (l.edge < most_edges) × Left l.next l.edge l.last l.initial.ix l.initial.words l.words l.ix

abbrev pub decreases-loop-ix : goal.decreases-loop-ix
decreases-loop-ix l = length (walk (next_in l.next) l.last most_segments l.ix)
