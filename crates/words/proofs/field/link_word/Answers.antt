-- `words::field::link_word` meets its contract.
use mathlib.Core.Path.{sym, ap, ◌∙◌}
use mir.Syntax.{w32}
use Rattle.words.specs.Field.{link_word}
use Rattle.words.proofs.Fields.{kept}
use Rattle.words.proofs.field.link_word.Goals as goal

pub returns-in-None : goal.returns-in-None
returns-in-None c = sym (ap link_word c.in-None.is)

pub returns-in-Some : goal.returns-in-Some
returns-in-Some c = let w = c.index_word in kept w32 w.result w.type_inv ∙ w.ensures ∙ sym (ap link_word c.in-Some.is)
