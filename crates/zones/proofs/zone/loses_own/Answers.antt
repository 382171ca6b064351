-- `zones::zone::loses_own` meets its contract.
use mathlib.Core.Path.{sym, ◌∙◌}
use Rattle.zones.specs.Steps.{loses_own}
use borrow.Author.Rules.{rules}
use Rattle.zones.proofs.zone.loses_own.Goals as goal

pub returns-then-edge2 : goal.returns-then-edge2
unfolding loses_own
returns-then-edge2 c = let t = c in rw (sym t.both_zoned.ensures ∙ t.if-both_zoned.true, c.if-edge2.true)

pub returns-then-both_zoned : goal.returns-then-both_zoned
unfolding loses_own
returns-then-both_zoned c = let t = c in rw (sym t.both_zoned.ensures ∙ t.if-both_zoned.true, c.if-edge2.false)

pub returns : goal.returns
unfolding loses_own
returns c = rw (sym c.both_zoned.ensures ∙ c.if-both_zoned.false)
