-- `edge_points_words::test::segments_points` meets its contract.
use borrow.Author.Tests.{not-true, not-false}
use native.Mathlib.Omega.{arith}
use mathlib.Core.Path.{◌≡◌, sym, ◌∙◌}
use mathlib.Core.Bool.{true}
use Prim.Native.Nat.{ℕ, ◌-◌, ◌≤◌}
use Rattle.axis.specs.Refusals.{every}
use Rattle.axis.specs.Segment.{segment_at}
use Rattle.axis.proofs.Tests.{every-none, every_more, every-fails, every-done}
use Rattle.words.specs.Segment.{segments_in, flat_segments}
use Rattle.words_segment.proofs.Wholes.{segments-len}
use Rattle.edge_points.specs.EdgePoints.{segment_points, segments_points}
use Rattle.words_tables_test.proofs.Tables.{tested-segment}
use Rattle.edge_points_words.proofs.test.segments_points.Goals as goal

pub loop-i-init : goal.loop-i-init
loop-i-init c = (omega arith, every-none _)

pub segment_points-requires : goal.segment_points-requires
segment_points-requires c = let l = c in (l.requires, omega arith)

pub returns-then-not-segment_points : goal.returns-then-not-segment_points
unfolding segments_points
returns-then-not-segment_points c =
    let t = c in
    let l = t in
    let s = l in
    sym (every-fails _ l.loop-i.i _ (tested-segment s.args.segments.now l.loop-i.i s.requires (omega arith))
    (sym t.segment_points.ensures ∙ c.if-not-segment_points.true))

pub overflow_step-i : goal.overflow_step-i
overflow_step-i c = omega arith

pub loop-i-smaller : goal.loop-i-smaller
loop-i-smaller c = omega arith

pub loop-i-preserved : goal.loop-i-preserved
loop-i-preserved c =
    let t = c in
    let l = t in
    (omega arith, every_more _ _ l.loop-i.invariant.1 (sym t.segment_points.ensures ∙ c.if-not-segment_points.false))

pub returns : goal.returns
unfolding segments_points
returns c =
    let l = c in
    let s = l in
    let ws = s.args.segments.now in
    every-done _ l.loop-i.i (segments_in ws) _ l.loop-i.invariant.0 (omega arith) (omega (arith, segments-len ws, s.requires.few)) l.loop-i.invariant.1
