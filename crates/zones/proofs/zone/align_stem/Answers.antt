-- `zones::zone::align_stem` meets its contract.
use mathlib.Core.Path.{sym, ap, ◌∙◌}
use Rattle.axis.specs.Edge.{finished}
use Rattle.zones.specs.Steps.{linked_or_zoned}
use borrow.Author.Rules.{rules}
use Rattle.zones.proofs.zone.align_stem.Goals as goal

pub returns-then-has_blue : goal.returns-then-has_blue
unfolding linked_or_zoned
returns-then-has_blue c = rw (sym c.has_blue.ensures ∙ c.if-has_blue.true)

pub returns : goal.returns
unfolding linked_or_zoned
returns c =
    let o = c in
    rw (sym o.has_blue.ensures ∙ o.if-has_blue.false) (c.with_done_flag.ensures ∙ ap finished c.linked_edge.ensures)
