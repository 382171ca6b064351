-- `fit_test_words::refuse::table_refusal` meets its contract.
use native.Mathlib.Omega.{arith}
use mathlib.Core.Path.{refl, ◌∙◌}
use Rattle.refusals.proofs.Tests.{none-tested}
use Rattle.refusals.proofs.Outcomes.{exit-answer, number-above, then-held, then-refused, then-last}
use Rattle.turn.specs.Indices.{index_tests}
use Rattle.words.specs.Segment.{flat_segments}
use Rattle.words_call.specs.Lent.{edges_of}
use Rattle.fit_test_words.proofs.Rows.{first-refuses, second-decides}
use Rattle.fit_test_words.proofs.refuse.table_refusal.Goals as goal

pub returns-in_err-tables_indexed : goal.returns-in_err-tables_indexed
returns-in_err-tables_indexed c =
    let a = c.args in
    exit-answer _ _ c.from_residual.ensures.1
    ∙ first-refuses (index_tests (edges_of a.edges.now) (flat_segments a.segments.now)) _ refl c.in_err-tables_indexed.ensures (number-above _)

pub returns-in_err-require : goal.returns-in_err-require
returns-in_err-require c =
    let a = c.args in
    second-decides (index_tests (edges_of a.edges.now) (flat_segments a.segments.now)) _ refl c.in_ok-tables_indexed.ensures (omega arith)
    (then-refused _ none-tested c.in_err-require.ensures c.ends_hold.ensures (exit-answer _ _ c.from_residual-in_err-require.ensures.1))

pub returns-in_err-require-2 : goal.returns-in_err-require-2
returns-in_err-require-2 c =
    let a = c.args in
    let t1 = then-held none-tested c.in_ok-require.ensures c.ends_hold.ensures in
    second-decides (index_tests (edges_of a.edges.now) (flat_segments a.segments.now)) _ refl c.in_ok-tables_indexed.ensures (omega arith)
    (then-refused _ t1 c.in_err-require-2.ensures c.segments_points.ensures (exit-answer _ _ c.from_residual-in_err-require-2.ensures.1))

pub returns-in_err-require-3 : goal.returns-in_err-require-3
returns-in_err-require-3 c =
    let a = c.args in
    let t1 = then-held none-tested c.in_ok-require.ensures c.ends_hold.ensures in
    let t2 = then-held t1 c.in_ok-require-2.ensures c.segments_points.ensures in
    second-decides (index_tests (edges_of a.edges.now) (flat_segments a.segments.now)) _ refl c.in_ok-tables_indexed.ensures (omega arith)
    (then-refused _ t2 c.in_err-require-3.ensures c.segments_ranged.ensures (exit-answer _ _ c.from_residual-in_err-require-3.ensures.1))

pub returns : goal.returns
returns c =
    let a = c.args in
    let t1 = then-held none-tested c.in_ok-require.ensures c.ends_hold.ensures in
    let t2 = then-held t1 c.in_ok-require-2.ensures c.segments_points.ensures in
    let t3 = then-held t2 c.in_ok-require-3.ensures c.segments_ranged.ensures in
    second-decides (index_tests (edges_of a.edges.now) (flat_segments a.segments.now)) _ refl c.in_ok-tables_indexed.ensures (omega arith)
    (then-last t3 c.require-4.ensures c.edges_ranged.ensures)
