-- `words::field::rule_of` meets its contract.
use mathlib.Core.Path.{◌≡◌, sym, ap, ◌∙◌}
use mathlib.Core.Bool.{Bool, cond}
use Rattle.signed.proofs.Signed.{is}
use Rattle.fixed.specs.declared.width.WidthRule.TheVariants.{Keep, Snap}
use Rattle.words.specs.Field.{choice_of, rule_of}
use Rattle.words.proofs.field.rule_of.Goals as goal
use Rattle.words.proofs.field.rule_of.Goals.{After-choice_of}

-- what the word chooses
chosen : (c : After-choice_of) → c.choice_of.result ≡ choice_of c.args.word
chosen c = c.choice_of.ensures ∙ ap choice_of (is c.ranges.word)

pub returns-then-choice_of : goal.returns-then-choice_of
unfolding rule_of
returns-then-choice_of c = ap (λ (b : Bool). cond b Snap Keep) (sym c.if-choice_of.true ∙ chosen c.before)

pub returns : goal.returns
unfolding rule_of
returns c = ap (λ (b : Bool). cond b Snap Keep) (sym c.if-choice_of.false ∙ chosen c.before)
