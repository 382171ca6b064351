-- `words::field::mark_word` meets its contract.
use mathlib.Core.Path.{sym, ap}
use Rattle.words.specs.Field.{mark_word}
use Rattle.words.proofs.field.mark_word.Goals as goal

pub returns-in-Nothing : goal.returns-in-Nothing
returns-in-Nothing c = sym (ap mark_word c.in-Nothing.is)

pub returns-in-BlueAnchor : goal.returns-in-BlueAnchor
returns-in-BlueAnchor c = sym (ap mark_word c.in-BlueAnchor.is)

pub returns-in-Blue : goal.returns-in-Blue
returns-in-Blue c = sym (ap mark_word c.in-Blue.is)

pub returns-in-Linked : goal.returns-in-Linked
returns-in-Linked c = sym (ap mark_word c.in-Linked.is)

pub returns-in-Anchor : goal.returns-in-Anchor
returns-in-Anchor c = sym (ap mark_word c.in-Anchor.is)

pub returns-in-Stem : goal.returns-in-Stem
returns-in-Stem c = sym (ap mark_word c.in-Stem.is)

pub returns-in-Adjusted : goal.returns-in-Adjusted
returns-in-Adjusted c = sym (ap mark_word c.in-Adjusted.is)

pub returns-in-Bound : goal.returns-in-Bound
returns-in-Bound c = sym (ap mark_word c.in-Bound.is)

pub returns-in-Serif : goal.returns-in-Serif
returns-in-Serif c = sym (ap mark_word c.in-Serif.is)

pub returns-in-LowercaseM : goal.returns-in-LowercaseM
returns-in-LowercaseM c = sym (ap mark_word c.in-LowercaseM.is)

pub returns-in-Between : goal.returns-in-Between
returns-in-Between c = sym (ap mark_word c.in-Between.is)

pub returns-in-Spaced : goal.returns-in-Spaced
returns-in-Spaced c = sym (ap mark_word c.in-Spaced.is)

pub returns-in-RemainingAnchor : goal.returns-in-RemainingAnchor
returns-in-RemainingAnchor c = sym (ap mark_word c.in-RemainingAnchor.is)
