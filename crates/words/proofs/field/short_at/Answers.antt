-- `words::field::short_at` meets its contract.
use mathlib.Core.Path.{ap, ◌∙◌}
use mir.Syntax.{w16, w32}
use Rattle.words.specs.Field.{short_of}
use Rattle.words.proofs.Fields.{kept}
use Rattle.words.proofs.field.short_at.Goals as goal

pub returns : goal.returns
returns c =
    let w = c.word_at in
    kept w16 c.short_of.result c.short_of.type_inv ∙ c.short_of.ensures ∙ ap short_of (kept w32 w.result w.type_inv ∙ w.ensures)
