-- `build_table::compute::building_refusal` meets its contract: test by test.
use mathlib.Core.Path.{refl, ap, ◌∙◌}
use lib.IntN.{ℤ}
use Rattle.signed.proofs.Signed.{is}
use Rattle.refusals.proofs.Tests.{none-tested}
use Rattle.refusals.proofs.Outcomes.{exit-answer, then-held, then-refused, then-last}
use Rattle.build.specs.Building.{numbers_hold, products_hold}
use Rattle.build_table.proofs.compute.building_refusal.Goals as goal

pub returns-in_err-require : goal.returns-in_err-require
returns-in_err-require c =
    then-refused _ none-tested c.in_err-require.ensures c.few_segments.ensures (exit-answer _ _ c.from_residual.ensures.1)

pub returns-in_err-require-2 : goal.returns-in_err-require-2
returns-in_err-require-2 c =
    let t1 = then-held none-tested c.in_ok-require.ensures c.few_segments.ensures in
    then-refused _ t1 c.in_err-require-2.ensures c.few_edges.ensures (exit-answer _ _ c.from_residual-in_err-require-2.ensures.1)

pub returns-in_err-require-3 : goal.returns-in_err-require-3
returns-in_err-require-3 c =
    let t1 = then-held none-tested c.in_ok-require.ensures c.few_segments.ensures in
    let t2 = then-held t1 c.in_ok-require-2.ensures c.few_edges.ensures in
    then-refused _ t2 c.in_err-require-3.ensures refl (exit-answer _ _ c.from_residual-in_err-require-3.ensures.1)

pub returns-in_err-require-4 : goal.returns-in_err-require-4
returns-in_err-require-4 c =
    let t1 = then-held none-tested c.in_ok-require.ensures c.few_segments.ensures in
    let t2 = then-held t1 c.in_ok-require-2.ensures c.few_edges.ensures in
    let t3 = then-held t2 c.in_ok-require-3.ensures refl in
    let numbers = c.numbers_hold.ensures ∙ ap (λ (z : ℤ). numbers_hold z c.args.thresholds) (is c.ranges.scale) in
    then-refused _ t3 c.in_err-require-4.ensures numbers (exit-answer _ _ c.from_residual-in_err-require-4.ensures.1)

pub returns-in_err-require-5 : goal.returns-in_err-require-5
returns-in_err-require-5 c =
    let t1 = then-held none-tested c.in_ok-require.ensures c.few_segments.ensures in
    let t2 = then-held t1 c.in_ok-require-2.ensures c.few_edges.ensures in
    let t3 = then-held t2 c.in_ok-require-3.ensures refl in
    let numbers = c.numbers_hold.ensures ∙ ap (λ (z : ℤ). numbers_hold z c.args.thresholds) (is c.ranges.scale) in
    let t4 = then-held t3 c.in_ok-require-4.ensures numbers in
    then-refused _ t4 c.in_err-require-5.ensures c.segments_indices.ensures (exit-answer _ _ c.from_residual-in_err-require-5.ensures.1)

pub returns-in_err-require-6 : goal.returns-in_err-require-6
returns-in_err-require-6 c =
    let t1 = then-held none-tested c.in_ok-require.ensures c.few_segments.ensures in
    let t2 = then-held t1 c.in_ok-require-2.ensures c.few_edges.ensures in
    let t3 = then-held t2 c.in_ok-require-3.ensures refl in
    let numbers = c.numbers_hold.ensures ∙ ap (λ (z : ℤ). numbers_hold z c.args.thresholds) (is c.ranges.scale) in
    let t4 = then-held t3 c.in_ok-require-4.ensures numbers in
    let t5 = then-held t4 c.in_ok-require-5.ensures c.segments_indices.ensures in
    then-refused _ t5 c.in_err-require-6.ensures c.segments_numbers.ensures (exit-answer _ _ c.from_residual-in_err-require-6.ensures.1)

pub returns : goal.returns
returns c =
    let t1 = then-held none-tested c.in_ok-require.ensures c.few_segments.ensures in
    let t2 = then-held t1 c.in_ok-require-2.ensures c.few_edges.ensures in
    let t3 = then-held t2 c.in_ok-require-3.ensures refl in
    let numbers = c.numbers_hold.ensures ∙ ap (λ (z : ℤ). numbers_hold z c.args.thresholds) (is c.ranges.scale) in
    let t4 = then-held t3 c.in_ok-require-4.ensures numbers in
    let t5 = then-held t4 c.in_ok-require-5.ensures c.segments_indices.ensures in
    let t6 = then-held t5 c.in_ok-require-6.ensures c.segments_numbers.ensures in
    then-last t6 c.require-7.ensures (c.products_hold.ensures ∙ ap (products_hold c.args.segments) (is c.ranges.scale))
