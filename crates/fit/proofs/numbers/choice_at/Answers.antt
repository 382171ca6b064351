-- `fit::numbers::choice_at` meets its contract.
use mathlib.Core.Path.{ap, ◌∙◌}
use mir.Syntax.{w32}
use Rattle.words.specs.Field.{choice_of}
use Rattle.words.proofs.Fields.{kept}
use borrow.Author.Rules.{rules}
use Rattle.fit.proofs.numbers.choice_at.Goals as goal

pub returns : goal.returns
returns c = let w = c.word_at in c.choice_of.ensures ∙ ap choice_of (kept w32 w.result w.type_inv ∙ w.ensures)
