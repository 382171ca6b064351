-- `gaps::find::gaps_refusal` meets its contract: test by test.
use mathlib.Core.Path.{ap, ◌∙◌}
use lib.IntN.{pos}
use Rattle.refusals.proofs.Tests.{none-tested}
use Rattle.refusals.proofs.Outcomes.{exit-answer, then-held, then-refused, then-last}
use Rattle.signed.proofs.Signed.{is}
use Rattle.axis.specs.Limits.{most_units}
use Rattle.axis.specs.Refusals.{inside}
use Rattle.gaps.proofs.find.gaps_refusal.Goals as goal

pub returns-in_err-require : goal.returns-in_err-require
returns-in_err-require c = then-refused _ none-tested c.in_err-require.ensures c.few_edges.ensures (exit-answer _ _ c.from_residual.ensures.1)

pub returns-in_err-require-2 : goal.returns-in_err-require-2
returns-in_err-require-2 c =
    let least-tested = c.is_inside.ensures ∙ ap (inside (pos 0) (pos most_units)) (is c.ranges.least) in
    let t1 = then-held none-tested c.in_ok-require.ensures c.few_edges.ensures in
    then-refused _ t1 c.in_err-require-2.ensures least-tested (exit-answer _ _ c.from_residual-in_err-require-2.ensures.1)

pub returns-in_err-require-3 : goal.returns-in_err-require-3
returns-in_err-require-3 c =
    let least-tested = c.is_inside.ensures ∙ ap (inside (pos 0) (pos most_units)) (is c.ranges.least) in
    let t1 = then-held none-tested c.in_ok-require.ensures c.few_edges.ensures in
    let t2 = then-held t1 c.in_ok-require-2.ensures least-tested in
    then-refused _ t2 c.in_err-require-3.ensures c.edges_indices.ensures (exit-answer _ _ c.from_residual-in_err-require-3.ensures.1)

pub returns : goal.returns
returns c =
    let least-tested = c.is_inside.ensures ∙ ap (inside (pos 0) (pos most_units)) (is c.ranges.least) in
    let t1 = then-held none-tested c.in_ok-require.ensures c.few_edges.ensures in
    let t2 = then-held t1 c.in_ok-require-2.ensures least-tested in
    let t3 = then-held t2 c.in_ok-require-3.ensures c.edges_indices.ensures in
    then-last t3 c.require-4.ensures c.edges_numbers.ensures
