-- `words_segment_test::exact::every_segment` meets its contract.
use mathlib.Core.Path.{◌≡◌, sym}
use mathlib.Core.Bool.{true}
use Prim.Native.Nat.{ℕ, ◌≤◌, ◌-◌, min}
use native.Mathlib.Omega.{arith}
use borrow.Author.Rules.{rules}
use borrow.Author.Tests.{not-true, not-false}
use Rattle.axis.specs.Segment.{segment_at}
use Rattle.axis.specs.Limits.{most_segments}
use Rattle.axis.specs.Refusals.{every, segment_passes}
use Rattle.axis.proofs.Tests.{every-none, every_more, every-fails, every-done}
use Rattle.words.specs.Segment.{segments_in, segments_run, flat_segments}
use Rattle.words_segment_test.proofs.Refusals.{segment-tested}
use Rattle.words_segment_test.proofs.exact.every_segment.Goals as goal

pub loop-i-init : goal.loop-i-init
loop-i-init c = (omega arith, c.min-n.ensures, every-none _)

pub overflow_mul-i : goal.overflow_mul-i
overflow_mul-i c = omega arith

pub segment_from-segment-requires : goal.segment_from-segment-requires
segment_from-segment-requires c = omega arith

pub returns-then-not-segment_passes : goal.returns-then-not-segment_passes
unfolding flat_segments segments_run
returns-then-not-segment_passes c =
    let t = c in
    let e = t in
    let o = e in
    let ws = o.args.words.now in
    sym (every-fails _ o.loop-i.i _ (omega arith)
    (segment-tested _ ws o.loop-i.i _ _ _ (omega arith) e.segment_from-segment.ensures t.segment_passes.ensures (c.if-not-segment_passes.true)))

pub overflow_step-i : goal.overflow_step-i
overflow_step-i c = omega arith

pub loop-i-smaller : goal.loop-i-smaller
loop-i-smaller c = omega arith

pub loop-i-preserved : goal.loop-i-preserved
loop-i-preserved c =
    let t = c in
    let e = t in
    let o = e in
    let ws = o.args.words.now in
    let v = o.loop-i.invariant in (
      omega arith,
      v.1,
      every_more _ _ v.2 (segment-tested _ ws o.loop-i.i _ _ _ (omega arith) e.segment_from-segment.ensures t.segment_passes.ensures
          (c.if-not-segment_passes.false)),
    )

pub returns : goal.returns
unfolding flat_segments segments_run
returns c = let o = c.loop-i.invariant in every-done _ _ _ _ o.0 (omega arith) o.1 o.2
