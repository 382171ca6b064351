-- `zones_table::align::align_where_zoned` meets its contract.
use mathlib.Core.Path.{sym, ◌∙◌}
use borrow.Author.Rules.{rules}
use Rattle.zones_table.proofs.align.align_where_zoned.Goals as goal

pub align_to_zones-requires : goal.align_to_zones-requires
align_to_zones-requires c = c.requires

pub returns-then-has_blues : goal.returns-then-has_blues
returns-then-has_blues c = let t = c in rw (sym t.has_blues.ensures ∙ t.if-has_blues.true) c.align_to_zones.ensures

pub returns : goal.returns
returns c = rw (sym c.has_blues.ensures ∙ c.if-has_blues.false)
