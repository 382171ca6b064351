-- `turn_words::lend::turning_front` meets its contract.
use mathlib.Core.Path.{refl, ◌∙◌}
use Rattle.refusals.proofs.Outcomes.{then-held, then-refused, then-last, exit-answer}
use Rattle.refusals.proofs.Tests.{none-tested}
use Rattle.turn_words.proofs.Lending.{each-test}
use Rattle.turn_words.proofs.lend.turning_front.Goals as goal

pub returns-in_err-require : goal.returns-in_err-require
returns-in_err-require c =
    then-refused _ none-tested c.in_err-require.ensures refl (exit-answer _ _ c.from_residual.ensures.1) ∙ each-test c.args.segments.now c.args.edges.now

pub returns-in_err-require-2 : goal.returns-in_err-require-2
returns-in_err-require-2 c =
    let t1 = then-held none-tested c.in_ok-require.ensures refl in
    then-refused _ t1 c.in_err-require-2.ensures refl (exit-answer _ _ c.from_residual-in_err-require-2.ensures.1) ∙ each-test c.args.segments.now c.args.edges.now

pub returns-in_err-require-3 : goal.returns-in_err-require-3
returns-in_err-require-3 c =
    let t1 = then-held none-tested c.in_ok-require.ensures refl in
    let t2 = then-held t1 c.in_ok-require-2.ensures refl in
    then-refused _ t2 c.in_err-require-3.ensures c.few_segments.ensures (exit-answer _ _ c.from_residual-in_err-require-3.ensures.1) ∙ each-test c.args.segments.now c.args.edges.now

pub returns-in_err-require-4 : goal.returns-in_err-require-4
returns-in_err-require-4 c =
    let t1 = then-held none-tested c.in_ok-require.ensures refl in
    let t2 = then-held t1 c.in_ok-require-2.ensures refl in
    let t3 = then-held t2 c.in_ok-require-3.ensures c.few_segments.ensures in
    then-refused _ t3 c.in_err-require-4.ensures c.few_edges.ensures (exit-answer _ _ c.from_residual-in_err-require-4.ensures.1) ∙ each-test c.args.segments.now c.args.edges.now

pub returns-in_err-require-5 : goal.returns-in_err-require-5
returns-in_err-require-5 c =
    let t1 = then-held none-tested c.in_ok-require.ensures refl in
    let t2 = then-held t1 c.in_ok-require-2.ensures refl in
    let t3 = then-held t2 c.in_ok-require-3.ensures c.few_segments.ensures in
    let t4 = then-held t3 c.in_ok-require-4.ensures c.few_edges.ensures in
    then-refused _ t4 c.in_err-require-5.ensures c.is_segments.ensures (exit-answer _ _ c.from_residual-in_err-require-5.ensures.1) ∙ each-test c.args.segments.now c.args.edges.now

pub returns : goal.returns
returns c =
    let t1 = then-held none-tested c.in_ok-require.ensures refl in
    let t2 = then-held t1 c.in_ok-require-2.ensures refl in
    let t3 = then-held t2 c.in_ok-require-3.ensures c.few_segments.ensures in
    let t4 = then-held t3 c.in_ok-require-4.ensures c.few_edges.ensures in
    let t5 = then-held t4 c.in_ok-require-5.ensures c.is_segments.ensures in
    then-last t5 c.require-6.ensures c.is_edges.ensures ∙ each-test c.args.segments.now c.args.edges.now
