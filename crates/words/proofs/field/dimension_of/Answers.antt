-- `words::field::dimension_of` meets its contract.
use mathlib.Core.Path.{◌≡◌, sym, ap, ◌∙◌}
use mathlib.Core.Bool.{Bool, cond}
use Rattle.signed.proofs.Signed.{is}
use Rattle.axis.specs.declared.kinds.Dimension.TheVariants as Dimensions
use Rattle.words.specs.Field.{choice_of, dimension_of}
use Rattle.words.proofs.field.dimension_of.Goals as goal
use Rattle.words.proofs.field.dimension_of.Goals.{After-choice_of}

-- what the word chooses
chosen : (c : After-choice_of) → c.choice_of.result ≡ choice_of c.args.word
chosen c = c.choice_of.ensures ∙ ap choice_of (is c.ranges.word)

pub returns-then-choice_of : goal.returns-then-choice_of
unfolding dimension_of
returns-then-choice_of c = ap (λ (b : Bool). cond b Dimensions.Vertical Dimensions.Horizontal) (sym c.if-choice_of.true ∙ chosen c.before)

pub returns : goal.returns
unfolding dimension_of
returns c = ap (λ (b : Bool). cond b Dimensions.Vertical Dimensions.Horizontal) (sym c.if-choice_of.false ∙ chosen c.before)
