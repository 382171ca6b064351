-- `edge_points_words::test::points_refusal` meets its contract.
use native.Mathlib.Omega.{arith}
use mathlib.Core.Path.{◌∙◌}
use Rattle.refusals.proofs.Tests.{none-tested}
use Rattle.refusals.proofs.Outcomes.{exit-answer, number-above, then-held, then-refused, then-last}
use Rattle.words.specs.Edge.{edges_in}
use Rattle.words.specs.Segment.{flat_segments}
use Rattle.words_call.specs.Lent.{edges_of}
use Rattle.words_edge.proofs.Wholes.{edges-len}
use Rattle.edge_points.specs.Steps.{points}
use Rattle.edge_points_words.proofs.Tests.{index-refuses, own-refuses, to_edges}
use Rattle.edge_points_words.proofs.test.points_refusal.Goals as goal

pub tables_indexed-requires : goal.tables_indexed-requires
tables_indexed-requires c = c.requires.held

pub returns-in_err-tables_indexed : goal.returns-in_err-tables_indexed
returns-in_err-tables_indexed c =
    let a = c.args in
    exit-answer _ _ c.from_residual.ensures.1
    ∙ index-refuses a.alone (edges_of a.edges.now) (flat_segments a.segments.now) (points a.currents.now a.touched.now) a.ends.now
    c.requires.currents_len_bound.0 c.requires.currents_len_bound.1 _ c.in_err-tables_indexed.ensures (number-above _)

pub segments_points-requires : goal.segments_points-requires
segments_points-requires c = c.requires.whole.0

pub segments_ranged-requires : goal.segments_ranged-requires
segments_ranged-requires c = c.requires.held

pub edges_ranged-requires : goal.edges_ranged-requires
edges_ranged-requires c = c.requires.held

pub movers_hold-requires : goal.movers_hold-requires
movers_hold-requires c =
    let es = c.args.edges.now in
    record {
      whole = c.requires.whole.0;
      whole_2 = (
        c.requires.whole.1,
        to_edges (edges_of es) (flat_segments c.args.segments.now) _ (edges_in es) c.in_ok-tables_indexed.ensures (omega arith) (edges-len es),
      );
    }

pub returns-in_err-require : goal.returns-in_err-require
returns-in_err-require c =
    let a = c.args in
    own-refuses a.alone (edges_of a.edges.now) (flat_segments a.segments.now) (points a.currents.now a.touched.now) a.ends.now
    c.requires.currents_len_bound.0 c.requires.currents_len_bound.1 _ c.in_ok-tables_indexed.ensures (omega arith) _
    (then-refused _ none-tested c.in_err-require.ensures c.ends_hold.ensures (exit-answer _ _ c.from_residual-in_err-require.ensures.1))

pub returns-in_err-require-2 : goal.returns-in_err-require-2
returns-in_err-require-2 c =
    let a = c.args in
    let t1 = then-held none-tested c.in_ok-require.ensures c.ends_hold.ensures in
    own-refuses a.alone (edges_of a.edges.now) (flat_segments a.segments.now) (points a.currents.now a.touched.now) a.ends.now
    c.requires.currents_len_bound.0 c.requires.currents_len_bound.1 _ c.in_ok-tables_indexed.ensures (omega arith) _
    (then-refused _ t1 c.in_err-require-2.ensures c.segments_points.ensures (exit-answer _ _ c.from_residual-in_err-require-2.ensures.1))

pub returns-in_err-require-3 : goal.returns-in_err-require-3
returns-in_err-require-3 c =
    let a = c.args in
    let t1 = then-held none-tested c.in_ok-require.ensures c.ends_hold.ensures in
    let t2 = then-held t1 c.in_ok-require-2.ensures c.segments_points.ensures in
    own-refuses a.alone (edges_of a.edges.now) (flat_segments a.segments.now) (points a.currents.now a.touched.now) a.ends.now
    c.requires.currents_len_bound.0 c.requires.currents_len_bound.1 _ c.in_ok-tables_indexed.ensures (omega arith) _
    (then-refused _ t2 c.in_err-require-3.ensures c.segments_ranged.ensures (exit-answer _ _ c.from_residual-in_err-require-3.ensures.1))

pub returns-in_err-require-4 : goal.returns-in_err-require-4
returns-in_err-require-4 c =
    let a = c.args in
    let t1 = then-held none-tested c.in_ok-require.ensures c.ends_hold.ensures in
    let t2 = then-held t1 c.in_ok-require-2.ensures c.segments_points.ensures in
    let t3 = then-held t2 c.in_ok-require-3.ensures c.segments_ranged.ensures in
    own-refuses a.alone (edges_of a.edges.now) (flat_segments a.segments.now) (points a.currents.now a.touched.now) a.ends.now
    c.requires.currents_len_bound.0 c.requires.currents_len_bound.1 _ c.in_ok-tables_indexed.ensures (omega arith) _
    (then-refused _ t3 c.in_err-require-4.ensures c.edges_ranged.ensures (exit-answer _ _ c.from_residual-in_err-require-4.ensures.1))

pub returns-in_err-require-5 : goal.returns-in_err-require-5
returns-in_err-require-5 c =
    let a = c.args in
    let t1 = then-held none-tested c.in_ok-require.ensures c.ends_hold.ensures in
    let t2 = then-held t1 c.in_ok-require-2.ensures c.segments_points.ensures in
    let t3 = then-held t2 c.in_ok-require-3.ensures c.segments_ranged.ensures in
    let t4 = then-held t3 c.in_ok-require-4.ensures c.edges_ranged.ensures in
    own-refuses a.alone (edges_of a.edges.now) (flat_segments a.segments.now) (points a.currents.now a.touched.now) a.ends.now
    c.requires.currents_len_bound.0 c.requires.currents_len_bound.1 _ c.in_ok-tables_indexed.ensures (omega arith) _
    (then-refused _ t4 c.in_err-require-5.ensures c.coordinates_hold.ensures (exit-answer _ _ c.from_residual-in_err-require-5.ensures.1))

pub returns : goal.returns
returns c =
    let a = c.args in
    let t1 = then-held none-tested c.in_ok-require.ensures c.ends_hold.ensures in
    let t2 = then-held t1 c.in_ok-require-2.ensures c.segments_points.ensures in
    let t3 = then-held t2 c.in_ok-require-3.ensures c.segments_ranged.ensures in
    let t4 = then-held t3 c.in_ok-require-4.ensures c.edges_ranged.ensures in
    let t5 = then-held t4 c.in_ok-require-5.ensures c.coordinates_hold.ensures in
    own-refuses a.alone (edges_of a.edges.now) (flat_segments a.segments.now) (points a.currents.now a.touched.now) a.ends.now
    c.requires.currents_len_bound.0 c.requires.currents_len_bound.1 _ c.in_ok-tables_indexed.ensures (omega arith) _
    (then-last t5 c.require-6.ensures c.movers_hold.ensures)
