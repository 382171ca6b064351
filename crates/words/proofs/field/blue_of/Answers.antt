-- `words::field::blue_of` meets its contract.
use Rattle.std.specs.Prelude.{None, Some}
use Rattle.words.specs.Field.{blue_of, choice_of}
use mathlib.Core.Path.{sym, ap, ◌∙◌}
use mathlib.Core.Bool.{Bool, cond}
use Rattle.signed.proofs.Signed.{is}
use Rattle.words.proofs.field.blue_of.Goals as goal

pub returns-then-choice_of : goal.returns-then-choice_of
unfolding blue_of
returns-then-choice_of c =
    let s = c in
    ap Some (is s.ranges.fitted)
    ∙ ap (λ (b : Bool). cond b (Some s.args.fitted) None)
    (sym c.if-choice_of.true ∙ c.choice_of.ensures ∙ ap choice_of (is s.ranges.present))

pub returns : goal.returns
unfolding blue_of
returns c =
    let s = c in
    ap (λ (b : Bool). cond b (Some s.args.fitted) None)
    (sym c.if-choice_of.false ∙ c.choice_of.ensures ∙ ap choice_of (is s.ranges.present))
