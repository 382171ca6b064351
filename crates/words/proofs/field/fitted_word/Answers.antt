-- `words::field::fitted_word` meets its contract.
use mathlib.Core.Path.{sym, ap, ◌∙◌}
use mir.Syntax.{w32}
use Rattle.words.specs.Field.{fitted_word}
use Rattle.words.proofs.Fields.{kept}
use Rattle.words.proofs.field.fitted_word.Goals as goal

pub returns-in-None : goal.returns-in-None
returns-in-None c = sym (ap fitted_word c.in-None.is)

pub returns-in-Some : goal.returns-in-Some
returns-in-Some c = kept w32 c.in-Some.fitted c.in-Some.known_told-1-own.given.0.1 ∙ sym (ap fitted_word c.in-Some.is)
