-- `edge_points_words::test::movers_hold` meets its contract.
use borrow.Author.Tests.{not-true, not-false}
use native.Mathlib.Omega.{arith}
use mathlib.Core.Path.{◌≡◌, sym, ◌∙◌}
use mathlib.Core.Bool.{true}
use Prim.Native.Nat.{ℕ, ◌-◌, ◌≤◌}
use Rattle.axis.specs.Refusals.{every}
use Rattle.axis.specs.Segment.{segment_at}
use Rattle.axis.proofs.Tests.{every-none, every_more, every-fails, every-done}
use Rattle.words.specs.Segment.{segments_in, flat_segments}
use Rattle.words_segment.proofs.Wholes.{segments-len}
use Rattle.words_call.specs.Lent.{edges_of}
use Rattle.edge_points.specs.EdgePoints.{mover_holds, movers_hold}
use Rattle.words_tables_test.proofs.Tables.{tested-segment}
use Rattle.edge_points_words.proofs.test.movers_hold.Goals as goal

pub loop-i-init : goal.loop-i-init
loop-i-init c = (omega arith, every-none _)

pub mover_holds-requires : goal.mover_holds-requires
mover_holds-requires c =
    let l = c in
    record {
      whole = (l.requires.whole, omega arith);
      whole_2 = l.requires.whole_2;
    }

pub returns-then-not-mover_holds : goal.returns-then-not-mover_holds
unfolding movers_hold
returns-then-not-mover_holds c =
    let t = c in
    let l = t in
    let s = l in
    sym (every-fails _ l.loop-i.i _ (tested-segment s.args.segments.now l.loop-i.i s.requires.whole (omega arith))
    (sym t.mover_holds.ensures ∙ c.if-not-mover_holds.true))

pub overflow_step-i : goal.overflow_step-i
overflow_step-i c = omega arith

pub loop-i-smaller : goal.loop-i-smaller
loop-i-smaller c = omega arith

pub loop-i-preserved : goal.loop-i-preserved
loop-i-preserved c =
    let t = c in
    let l = t in
    (omega arith, every_more _ _ l.loop-i.invariant.1 (sym t.mover_holds.ensures ∙ c.if-not-mover_holds.false))

pub returns : goal.returns
unfolding movers_hold
returns c =
    let l = c in
    let s = l in
    let ws = s.args.segments.now in
    every-done _ l.loop-i.i (segments_in ws) _ l.loop-i.invariant.0 (omega arith) (omega (arith, segments-len ws, s.requires.whole.few)) l.loop-i.invariant.1
