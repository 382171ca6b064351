-- `build_mark::mark::link_segments_to_edges` meets its contract: each turn marks one edge, each inner turn one of its segments.
use borrow.Author.Rules.{rules}
use native.Mathlib.Omega.{arith}
use mathlib.Core.Path.{◌≡◌, refl, ap, ◌∙◌}
use mathlib.Core.Bool.{true}
use Prim.Native.Nat.{◌-◌, ◌≤◌, ◌<◌}
use lib.ListN.{length}
use Rattle.axis.specs.Edge.{edge_at}
use Rattle.axis.specs.Limits.{most_edges, most_segments}
use Rattle.axis.specs.Ring.{walk, ends}
use Rattle.axis.proofs.Rings.{Passes, walk-passes}
use Rattle.build_join.specs.Walks.{next_in}
use Rattle.build_join.proofs.Rings.{fewer}
use Rattle.build_mark.specs.Marks.{marks}
use Rattle.build_mark.specs.Steps.{marked}
use Rattle.build_mark.proofs.Marking.{mark_on, mark-end, marked-none, marked_more}
use Rattle.build_mark.proofs.mark.link_segments_to_edges.Given as goal

abbrev pub invariant-loop-ix : goal.invariant-loop-ix
invariant-loop-ix l = (l.ix < most_segments) × (l.edge_ix < l.count) × (l.count ≤ most_edges) × (ends (next_in l.next) most_segments l.last most_segments l.ix ≡ true)
    × (marks l.next l.edge_ix (walk (next_in l.next) l.last most_segments l.ix) l.table ≡ marks l.next l.edge_ix (walk (next_in l.next) l.last most_segments l.initial.ix) l.initial.table)

abbrev pub decreases-loop-ix : goal.decreases-loop-ix
decreases-loop-ix l = length (walk (next_in l.next) l.last most_segments l.ix)

abbrev pub invariant-loop-edge_ix : goal.invariant-loop-edge_ix
invariant-loop-edge_ix l = (l.edge_ix ≤ l.count) × (l.count ≤ most_edges) × (l.table ≡ marked l.next l.edges l.edge_ix l.initial.table)

abbrev pub decreases-loop-edge_ix : goal.decreases-loop-edge_ix
decreases-loop-edge_ix l = l.count - l.edge_ix
