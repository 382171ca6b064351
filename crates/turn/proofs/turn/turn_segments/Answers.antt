-- `turn::turn::turn_segments` meets its contract: each turn fills one place.
use native.Mathlib.Omega.{arith}
use mathlib.Core.Path.{refl, ◌∙◌}
use Prim.Native.Nat.{◌≤◌, min}
use lib.ListN.{length}
use Rattle.axis.specs.Limits.{most_segments}
use Rattle.axis.proofs.Declared.{typed}
use Rattle.axis.proofs.Tests.{every-at}
use Rattle.turn.specs.Indices.{segments_edges}
use Rattle.turn.proofs.Places.{segments-more, segments-all}
use Rattle.turn.proofs.turn.turn_segments.Goals as goal

pub loop-i-init : goal.loop-i-init
loop-i-init c = (omega arith, c.requires.0, refl)

pub offset_bounds-segments-i : goal.offset_bounds-segments-i
offset_bounds-segments-i c = omega arith

pub bounds-segments-i : goal.bounds-segments-i
bounds-segments-i c = omega arith

pub turned_segment-requires : goal.turned_segment-requires
unfolding segments_edges
turned_segment-requires c = (c.requires.1, every-at _ _ (min c.args.segments.len most_segments) c.requires.2 (omega arith))

pub offset_bounds-turned-i : goal.offset_bounds-turned-i
offset_bounds-turned-i c = omega arith

pub bounds-turned-i : goal.bounds-turned-i
bounds-turned-i c = omega arith

pub overflow_step-i : goal.overflow_step-i
overflow_step-i c = omega arith

pub loop-i-smaller : goal.loop-i-smaller
loop-i-smaller c = omega arith

pub loop-i-preserved : goal.loop-i-preserved
loop-i-preserved c =
    let whole : c.args.segments.len ≤ length c.args.segments.segments = omega (arith, (typed c.args.segments _ c.well_formed.0).places, c.requires.0) in (
      omega arith,
      c.loop-i.invariant.1,
      segments-more c.args.count c.args.segments whole _ _ _ c.loop-i-test.true c.loop-i.invariant.2
          c.turned_segment.ensures,
    )

pub returns : goal.returns
returns c =
    let whole : c.args.segments.len ≤ length c.args.segments.segments = omega (arith, (typed c.args.segments _ c.well_formed.0).places, c.requires.0) in
    c.loop-i.invariant.2 ∙ segments-all c.args.count c.args.segments whole _ c.loop-i.invariant.0 c.loop-i-test.false
