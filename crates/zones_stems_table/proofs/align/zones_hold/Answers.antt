-- `zones_stems_table::align::zones_hold` meets its contract.
use mathlib.Core.Path.{sym, ◌∙◌}
use Rattle.axis.specs.Refusals.{edge_passes}
use Rattle.zones_stems.specs.Joined.{zones_hold}
use borrow.Author.Rules.{rules}
use Rattle.zones_stems_table.proofs.align.zones_hold.Goals as goal

pub returns-then-has_blues : goal.returns-then-has_blues
unfolding zones_hold
returns-then-has_blues c = rw (sym c.has_blues.ensures ∙ c.if-has_blues.true)

pub returns : goal.returns
unfolding zones_hold edge_passes
returns c = rw (sym c.has_blues.ensures ∙ c.if-has_blues.false) c.every_edge.ensures
