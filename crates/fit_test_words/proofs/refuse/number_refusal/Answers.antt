-- `fit_test_words::refuse::number_refusal` meets its contract.
use mathlib.Core.Path.{ap, ◌∙◌}
use mir.Syntax.{w32}
use lib.IntN.{pos}
use Rattle.refusals.proofs.Tests.{none-tested}
use Rattle.refusals.proofs.Outcomes.{exit-answer, then-held, then-refused, then-last}
use Rattle.axis.specs.Limits.{most_units}
use Rattle.axis.specs.Refusals.{inside as inside_of}
use Rattle.words.proofs.Fields.{kept}
use Rattle.fit_test_words.proofs.refuse.number_refusal.Goals as goal

pub returns-in_err-require : goal.returns-in_err-require
returns-in_err-require c = then-refused _ none-tested c.in_err-require.ensures c.rule_holds.ensures (exit-answer _ _ c.from_residual.ensures.1)

pub returns-in_err-require-2 : goal.returns-in_err-require-2
returns-in_err-require-2 c =
    let t1 = then-held none-tested c.in_ok-require.ensures c.rule_holds.ensures in
    then-refused _ t1 c.in_err-require-2.ensures (c.is_inside.ensures ∙ ap (inside_of (pos 0) (pos most_units)) (kept w32 c.args.by.least c.struct_told-1.given.1.1.1.1.1.1.1.0.1)) (exit-answer _ _ c.from_residual-in_err-require-2.ensures.1)

pub returns : goal.returns
returns c =
    let t1 = then-held none-tested c.in_ok-require.ensures c.rule_holds.ensures in
    let t2 = then-held t1 c.in_ok-require-2.ensures (c.is_inside.ensures ∙ ap (inside_of (pos 0) (pos most_units)) (kept w32 c.args.by.least c.struct_told-1.given.1.1.1.1.1.1.1.0.1)) in
    then-last t2 c.require-3.ensures (c.zones_hold.ensures c.requires)
