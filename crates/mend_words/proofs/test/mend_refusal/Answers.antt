-- `mend_words::test::mend_refusal` meets its contract: test by test.
use Rattle.refusals.proofs.Tests.{none-tested}
use Rattle.refusals.proofs.Outcomes.{exit-answer, then-held, then-refused, then-last}
use Rattle.axis.specs.Refusals.{segment_passes}
use Rattle.turn.specs.Indices.{segments_edges}
use Rattle.words.specs.Edge.{axis_run, flat_axis}
use Rattle.words.specs.Segment.{segments_run, flat_segments}
use Rattle.mend_words.proofs.test.mend_refusal.Goals as goal

pub returns-in_err-require : goal.returns-in_err-require
unfolding segments_edges segment_passes flat_segments segments_run flat_axis axis_run
returns-in_err-require c = then-refused _ none-tested c.in_err-require.ensures c.few_segments.ensures (exit-answer _ _ c.from_residual.ensures.1)

pub returns-in_err-require-2 : goal.returns-in_err-require-2
unfolding segments_edges segment_passes flat_segments segments_run flat_axis axis_run
returns-in_err-require-2 c =
    let t1 = then-held none-tested c.in_ok-require.ensures c.few_segments.ensures in
    then-refused _ t1 c.in_err-require-2.ensures c.few_edges.ensures (exit-answer _ _ c.from_residual-in_err-require-2.ensures.1)

pub returns-in_err-require-3 : goal.returns-in_err-require-3
unfolding segments_edges segment_passes flat_segments segments_run flat_axis axis_run
returns-in_err-require-3 c =
    let t1 = then-held none-tested c.in_ok-require.ensures c.few_segments.ensures in
    let t2 = then-held t1 c.in_ok-require-2.ensures c.few_edges.ensures in
    then-refused _ t2 c.in_err-require-3.ensures c.numbers_hold.ensures (exit-answer _ _ c.from_residual-in_err-require-3.ensures.1)

pub returns-in_err-require-4 : goal.returns-in_err-require-4
unfolding segments_edges segment_passes flat_segments segments_run flat_axis axis_run
returns-in_err-require-4 c =
    let t1 = then-held none-tested c.in_ok-require.ensures c.few_segments.ensures in
    let t2 = then-held t1 c.in_ok-require-2.ensures c.few_edges.ensures in
    let t3 = then-held t2 c.in_ok-require-3.ensures c.numbers_hold.ensures in
    then-refused _ t3 c.in_err-require-4.ensures c.numbers_hold-2.ensures (exit-answer _ _ c.from_residual-in_err-require-4.ensures.1)

pub returns : goal.returns
unfolding segments_edges segment_passes flat_segments segments_run flat_axis axis_run
returns c =
    let t1 = then-held none-tested c.in_ok-require.ensures c.few_segments.ensures in
    let t2 = then-held t1 c.in_ok-require-2.ensures c.few_edges.ensures in
    let t3 = then-held t2 c.in_ok-require-3.ensures c.numbers_hold.ensures in
    let t4 = then-held t3 c.in_ok-require-4.ensures c.numbers_hold-2.ensures in
    then-last t4 c.require-5.ensures c.every_segment.ensures
