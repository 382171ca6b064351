-- `link_table::segments::linking_refusal` meets its contract: test by test.
use Rattle.signed.proofs.By.{by₂}
use Rattle.signed.proofs.Signed.{is}
use Rattle.refusals.proofs.Tests.{none-tested}
use Rattle.refusals.proofs.Outcomes.{exit-answer, then-held, then-refused, then-last}
use Rattle.link.specs.Linking.{numbers_hold}
use Rattle.link_table.proofs.segments.linking_refusal.Goals as goal

pub returns-in_err-require : goal.returns-in_err-require
returns-in_err-require c =
    then-refused _ none-tested c.in_err-require.ensures c.few_segments.ensures (exit-answer _ _ c.from_residual.ensures.1)

pub returns-in_err-require-2 : goal.returns-in_err-require-2
returns-in_err-require-2 c =
    let t1 = then-held none-tested c.in_ok-require.ensures c.few_segments.ensures in
    let numbers = by₂ numbers_hold c.numbers_hold.ensures (is c.ranges.units_per_em) (is c.ranges.scale) in
    then-refused _ t1 c.in_err-require-2.ensures numbers (exit-answer _ _ c.from_residual-in_err-require-2.ensures.1)

pub returns-in_err-require-3 : goal.returns-in_err-require-3
returns-in_err-require-3 c =
    let t1 = then-held none-tested c.in_ok-require.ensures c.few_segments.ensures in
    let numbers = by₂ numbers_hold c.numbers_hold.ensures (is c.ranges.units_per_em) (is c.ranges.scale) in
    let t2 = then-held t1 c.in_ok-require-2.ensures numbers in
    then-refused _ t2 c.in_err-require-3.ensures c.segments_indices.ensures (exit-answer _ _ c.from_residual-in_err-require-3.ensures.1)

pub returns-in_err-require-4 : goal.returns-in_err-require-4
returns-in_err-require-4 c =
    let t1 = then-held none-tested c.in_ok-require.ensures c.few_segments.ensures in
    let numbers = by₂ numbers_hold c.numbers_hold.ensures (is c.ranges.units_per_em) (is c.ranges.scale) in
    let t2 = then-held t1 c.in_ok-require-2.ensures numbers in
    let t3 = then-held t2 c.in_ok-require-3.ensures c.segments_indices.ensures in
    then-refused _ t3 c.in_err-require-4.ensures c.segments_nexts.ensures (exit-answer _ _ c.from_residual-in_err-require-4.ensures.1)

pub returns : goal.returns
returns c =
    let t1 = then-held none-tested c.in_ok-require.ensures c.few_segments.ensures in
    let numbers = by₂ numbers_hold c.numbers_hold.ensures (is c.ranges.units_per_em) (is c.ranges.scale) in
    let t2 = then-held t1 c.in_ok-require-2.ensures numbers in
    let t3 = then-held t2 c.in_ok-require-3.ensures c.segments_indices.ensures in
    let t4 = then-held t3 c.in_ok-require-4.ensures c.segments_nexts.ensures in
    then-last t4 c.require-5.ensures c.segments_numbers.ensures
