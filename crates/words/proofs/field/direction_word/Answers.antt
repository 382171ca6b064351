-- `words::field::direction_word` meets its contract.
use mathlib.Core.Path.{sym, ap}
use Rattle.words.specs.Field.{direction_word}
use Rattle.words.proofs.field.direction_word.Goals as goal

pub returns-in-None : goal.returns-in-None
returns-in-None c = sym (ap direction_word c.in-None.is)

pub returns-in-Right : goal.returns-in-Right
returns-in-Right c = sym (ap direction_word c.in-Right.is)

pub returns-in-Left : goal.returns-in-Left
returns-in-Left c = sym (ap direction_word c.in-Left.is)

pub returns-in-Up : goal.returns-in-Up
returns-in-Up c = sym (ap direction_word c.in-Up.is)

pub returns-in-Down : goal.returns-in-Down
returns-in-Down c = sym (ap direction_word c.in-Down.is)
