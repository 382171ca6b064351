-- `words_edge::edge::read_mark` meets its contract.
use mathlib.Core.Path.{ap, ◌∙◌}
use mir.Syntax.{w32}
use Rattle.words.specs.Field.{mark_of}
use Rattle.words.proofs.Fields.{kept}
use borrow.Author.Rules.{rules}
use Rattle.words_edge.proofs.edge.read_mark.Goals as goal

pub returns : goal.returns
returns c = let w = c.read_word in c.mark_of.ensures ∙ ap mark_of (kept w32 w.result w.type_inv ∙ w.ensures)
