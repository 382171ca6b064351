-- `words::field::present_word` meets its contract.
use mathlib.Core.Path.{sym, ap}
use Rattle.words.specs.Field.{present_word}
use Rattle.words.proofs.field.present_word.Goals as goal

pub returns-in-None : goal.returns-in-None
returns-in-None c = sym (ap present_word c.in-None.is)

pub returns-in-Some : goal.returns-in-Some
returns-in-Some c = sym (ap present_word c.in-Some.is)
