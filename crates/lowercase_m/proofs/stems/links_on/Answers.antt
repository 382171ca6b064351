-- `lowercase_m::stems::links_on` meets its contract.
use mathlib.Core.Path.{◌∙◌}
use Rattle.axis.proofs.Equal.{option-links}
use Rattle.lowercase_m.proofs.stems.links_on.Goals as goal

pub returns : goal.returns
returns c = c.eq.ensures ∙ option-links _ _
