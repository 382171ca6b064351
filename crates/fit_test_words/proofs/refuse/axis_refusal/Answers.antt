-- `fit_test_words::refuse::axis_refusal` meets its contract.
use native.Mathlib.Omega.{arith}
use mathlib.Core.Path.{refl, ◌∙◌}
use lib.ListN.{length}
use Rattle.refusals.proofs.Outcomes.{exit-answer, number-above}
use Rattle.words.specs.Segment.{flat_segments}
use Rattle.words_call.specs.Lent.{edges_of}
use Rattle.words_edge.specs.Whole.{axis_in}
use Rattle.fit.specs.Fit.{number_tests, table_tests}
use Rattle.fit_test_words.proofs.Rows.{first-refuses, second-decides}
use Rattle.fit_test_words.proofs.refuse.axis_refusal.Goals as goal

pub returns-in_err-number_refusal : goal.returns-in_err-number_refusal
returns-in_err-number_refusal c =
    let a = c.args in
    exit-answer _ _ c.from_residual.ensures.1
    ∙ first-refuses (number_tests a.by a.standards.now (axis_in a.edges.now a.by.dim)) _ refl c.in_err-number_refusal.ensures (number-above _)

pub returns-in_err-table_refusal : goal.returns-in_err-table_refusal
returns-in_err-table_refusal c =
    let a = c.args in
    exit-answer _ _ c.from_residual-in_err-table_refusal.ensures.1
    ∙ second-decides (number_tests a.by a.standards.now (axis_in a.edges.now a.by.dim)) _ refl c.in_ok-number_refusal.ensures (omega arith)
    (first-refuses (table_tests (edges_of a.edges.now) (flat_segments a.segments.now) (length a.originals.now) a.ends.now) _ refl
    c.in_err-table_refusal.ensures (number-above _))

pub returns : goal.returns
returns c =
    let a = c.args in
    second-decides (number_tests a.by a.standards.now (axis_in a.edges.now a.by.dim)) _ refl c.in_ok-number_refusal.ensures (omega arith)
    (second-decides (table_tests (edges_of a.edges.now) (flat_segments a.segments.now) (length a.originals.now) a.ends.now) _ refl
    c.in_ok-table_refusal.ensures (omega arith) c.range_refusal.ensures)
