-- `build_words::lend::own_refusal` meets its contract: test by test.
use mathlib.Core.Path.{refl, ap, ◌∙◌}
use lib.IntN.{ℤ}
use Rattle.signed.proofs.Signed.{is}
use Rattle.refusals.proofs.Tests.{none-tested}
use Rattle.refusals.proofs.Outcomes.{exit-answer, then-held, then-refused, then-last}
use Rattle.build.specs.Building.{numbers_hold}
use Rattle.build_words.proofs.lend.own_refusal.Goals as goal

pub returns-in_err-require : goal.returns-in_err-require
returns-in_err-require c = then-refused _ none-tested c.in_err-require.ensures refl (exit-answer _ _ c.from_residual.ensures.1)

pub returns : goal.returns
returns c =
    let t1 = then-held none-tested c.in_ok-require.ensures refl in
    then-last t1 c.require-2.ensures (c.numbers_hold.ensures ∙ ap (λ (z : ℤ). numbers_hold z c.args.thresholds) (is c.ranges.scale))
