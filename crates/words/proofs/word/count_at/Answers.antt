-- `words::word::count_at` meets its contract.
use mathlib.Core.Path.{ap, ◌∙◌}
use mir.Syntax.{w32}
use Rattle.signed.specs.Parts.{up}
use Rattle.words.proofs.Fields.{kept}
use Rattle.words.proofs.word.count_at.Goals as goal

pub returns : goal.returns
returns c = let w = c.word_at in c.size_of.ensures ∙ ap up (kept w32 w.result w.type_inv ∙ w.ensures)
