-- `turn::turn::turn_edges` meets its contract: each turn fills one place.
use native.Mathlib.Omega.{arith}
use mathlib.Core.Path.{refl, ◌∙◌}
use Prim.Native.Nat.{◌≤◌, min}
use lib.ListN.{length}
use Rattle.axis.specs.Limits.{most_edges}
use Rattle.axis.specs.Refusals.{edges_indices}
use Rattle.axis.proofs.Declared.{typed-axis}
use Rattle.axis.proofs.Tests.{every-at}
use Rattle.turn.proofs.Places.{edges_more, edges-all}
use Rattle.turn.proofs.turn.turn_edges.Goals as goal

pub loop-i-init : goal.loop-i-init
loop-i-init c = (omega arith, c.requires.0, refl)

pub overflow_sub-edge : goal.overflow_sub-edge
overflow_sub-edge c = omega arith

pub overflow_sub-edge-in-loop-i : goal.overflow_sub-edge-in-loop-i
overflow_sub-edge-in-loop-i c = omega arith

pub offset_bounds-axis-count : goal.offset_bounds-axis-count
offset_bounds-axis-count c = omega arith

pub bounds-axis-count : goal.bounds-axis-count
bounds-axis-count c = omega arith

pub turned_edge-requires : goal.turned_edge-requires
unfolding edges_indices
turned_edge-requires c = (c.requires.0, every-at _ _ (min c.args.axis.len most_edges) c.requires.1 (omega arith))

pub offset_bounds-turned-i : goal.offset_bounds-turned-i
offset_bounds-turned-i c = omega arith

pub bounds-turned-i : goal.bounds-turned-i
bounds-turned-i c = omega arith

pub overflow_step-i : goal.overflow_step-i
overflow_step-i c = omega arith

pub loop-i-smaller : goal.loop-i-smaller
loop-i-smaller c = omega arith

pub loop-i-preserved : goal.loop-i-preserved
loop-i-preserved c =
    let whole : c.args.axis.len ≤ length c.args.axis.edges = omega (arith, (typed-axis c.args.axis _ c.well_formed.0).places, c.requires.0) in (
      omega arith,
      c.loop-i.invariant.1,
      edges_more c.args.axis whole _ _ _ c.loop-i-test.true c.loop-i.invariant.2
          c.turned_edge.ensures,
    )

pub returns : goal.returns
returns c =
    let whole : c.args.axis.len ≤ length c.args.axis.edges = omega (arith, (typed-axis c.args.axis _ c.well_formed.0).places, c.requires.0) in
    c.loop-i.invariant.2 ∙ edges-all c.args.axis whole _ c.loop-i.invariant.0 c.loop-i-test.false
