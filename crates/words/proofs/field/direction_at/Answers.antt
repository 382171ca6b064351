-- `words::field::direction_at` meets its contract.
use mathlib.Core.Path.{ap, ◌∙◌}
use mir.Syntax.{w32}
use Rattle.words.specs.Field.{direction_of}
use Rattle.words.proofs.Fields.{kept}
use Rattle.words.proofs.field.direction_at.Goals as goal

pub returns : goal.returns
returns c = let w = c.word_at in c.direction_of.ensures ∙ ap direction_of (kept w32 w.result w.type_inv ∙ w.ensures)
