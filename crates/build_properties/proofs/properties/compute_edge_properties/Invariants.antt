-- `build_properties::properties::compute_edge_properties` meets its contract: each inner turn is the visit of one segment.
use borrow.Author.Rules.{rules}
use native.Mathlib.Omega.{arith}
use mathlib.Core.Path.{◌≡◌, sym}
use mathlib.Core.Logic.{⊎_elim}
use Prim.Native.Nat.{◌-◌, ◌<◌, ◌≤◌}
use lib.ListN.{length}
use Rattle.axis.specs.declared.edge.Axis.{Axis}
use Rattle.axis.specs.Edge.{edge_at, put_edge}
use Rattle.axis.specs.Limits.{most_edges, most_segments}
use Rattle.axis.specs.Ring.{next_of, walk}
use Rattle.axis.proofs.Rings.{walk-passes, shorter}
use Rattle.build_properties.specs.Properties as P
use Rattle.build_properties.specs.Steps.{Ready}
use Rattle.build_properties.proofs.Kept.{Kept, start-kept, edges-kept, member-kept, ready-kept, serif-inside, link-inside, held-inside, joined-inside}
use Rattle.build_properties.proofs.Turns.{Along, Counted, member_is, along-start, along-more, along-end, edges_none, edges_more}
use Rattle.build_properties.proofs.properties.compute_edge_properties.Given as goal

abbrev pub invariant-loop-roundness : goal.invariant-loop-roundness
invariant-loop-roundness l = (l.edge_ix < l.count) × (l.count ≤ most_edges) × (l.segment_ix < most_segments) × (l.count ≡ l.initial.table.len) × Ready l.initial.table l.segments × Kept l.initial.table l.table
    × Along l.segments l.edge_ix l.last_segment_ix l.initial.segment_ix l.initial.table l.table l.segment_ix l.roundness l.straightness

abbrev pub decreases-loop-roundness : goal.decreases-loop-roundness
decreases-loop-roundness l = length (walk (next_of l.segments l.last_segment_ix) l.last_segment_ix most_segments l.segment_ix)

abbrev pub invariant-loop-edge_ix : goal.invariant-loop-edge_ix
invariant-loop-edge_ix l = (l.edge_ix ≤ l.count) × (l.count ≤ most_edges) × (l.table ≡ P.edges l.segments l.edge_ix l.initial.table)

abbrev pub decreases-loop-edge_ix : goal.decreases-loop-edge_ix
decreases-loop-edge_ix l = l.count - l.edge_ix
