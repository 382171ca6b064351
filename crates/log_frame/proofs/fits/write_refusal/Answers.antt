-- `log_frame::fits::write_refusal` meets its contract: test by test.
use mathlib.Core.Path.{refl}
use Rattle.refusals.proofs.Tests.{none-tested}
use Rattle.refusals.proofs.Outcomes.{exit-answer, then-held, then-refused, then-last}
use Rattle.log_frame.proofs.fits.write_refusal.Goals as goal

pub returns-in_err-require : goal.returns-in_err-require
returns-in_err-require c =
    then-refused _ none-tested c.in_err-require.ensures refl (exit-answer _ _ c.from_residual.ensures.1)

pub returns-in_err-require-2 : goal.returns-in_err-require-2
returns-in_err-require-2 c =
    let t1 = then-held none-tested c.in_ok-require.ensures refl in
    then-refused _ t1 c.in_err-require-2.ensures refl (exit-answer _ _ c.from_residual-in_err-require-2.ensures.1)

pub returns-in_err-require-3 : goal.returns-in_err-require-3
returns-in_err-require-3 c =
    let t1 = then-held none-tested c.in_ok-require.ensures refl in
    let t2 = then-held t1 c.in_ok-require-2.ensures refl in
    then-refused _ t2 c.in_err-require-3.ensures c.room_for.ensures (exit-answer _ _ c.from_residual-in_err-require-3.ensures.1)

pub returns-in_err-require-4 : goal.returns-in_err-require-4
returns-in_err-require-4 c =
    let t1 = then-held none-tested c.in_ok-require.ensures refl in
    let t2 = then-held t1 c.in_ok-require-2.ensures refl in
    let t3 = then-held t2 c.in_ok-require-3.ensures c.room_for.ensures in
    then-refused _ t3 c.in_err-require-4.ensures c.ends_fit.ensures (exit-answer _ _ c.from_residual-in_err-require-4.ensures.1)

pub returns-in_err-require-5 : goal.returns-in_err-require-5
returns-in_err-require-5 c =
    let t1 = then-held none-tested c.in_ok-require.ensures refl in
    let t2 = then-held t1 c.in_ok-require-2.ensures refl in
    let t3 = then-held t2 c.in_ok-require-3.ensures c.room_for.ensures in
    let t4 = then-held t3 c.in_ok-require-4.ensures c.ends_fit.ensures in
    then-refused _ t4 c.in_err-require-5.ensures c.numbers_fit.ensures (exit-answer _ _ c.from_residual-in_err-require-5.ensures.1)

pub returns : goal.returns
returns c =
    let t1 = then-held none-tested c.in_ok-require.ensures refl in
    let t2 = then-held t1 c.in_ok-require-2.ensures refl in
    let t3 = then-held t2 c.in_ok-require-3.ensures c.room_for.ensures in
    let t4 = then-held t3 c.in_ok-require-4.ensures c.ends_fit.ensures in
    let t5 = then-held t4 c.in_ok-require-5.ensures c.numbers_fit.ensures in
    then-last t5 c.require-6.ensures c.numbers_fit-2.ensures
