-- `zones::zone::loses_link` meets its contract.
use mathlib.Core.Path.{sym, ◌∙◌}
use Rattle.zones.specs.Steps.{loses_link}
use borrow.Author.Rules.{rules}
use Rattle.zones.proofs.zone.loses_link.Goals as goal

pub returns-then-both_zoned : goal.returns-then-both_zoned
unfolding loses_link
returns-then-both_zoned c = rw (sym c.both_zoned.ensures ∙ c.if-both_zoned.true)

pub returns : goal.returns
unfolding loses_link
returns c = rw (sym c.both_zoned.ensures ∙ c.if-both_zoned.false)
