-- `words::field::flags_at` meets its contract.
use mathlib.Core.Path.{ap, ◌∙◌}
use mir.Syntax.{w32}
use Rattle.words.specs.Field.{flags_of}
use Rattle.words.proofs.Fields.{kept}
use Rattle.words.proofs.field.flags_at.Goals as goal

pub returns : goal.returns
returns c = let w = c.word_at in c.flags_of.ensures ∙ ap flags_of (kept w32 w.result w.type_inv ∙ w.ensures)
