-- `stems::store::hold` meets its contract.
use mathlib.Core.Path.{sym, ◌∙◌}
use Rattle.place.proofs.Reach.{reach-read}
use Rattle.stems.specs.Plan.{held_edge}
use borrow.Author.Rules.{rules}
use Rattle.stems.proofs.store.hold.Goals as goal

pub returns-then-is_over : goal.returns-then-is_over
unfolding held_edge
returns-then-is_over c =
    let u = c in
    let o = u in
    let t = o in
    let b = t in
    let s = b in
    rw (sym b.is_bounded.ensures ∙ t.if-is_bounded.true, sym o.is_over.ensures ∙ u.if-is_over.true) (rw (reach-read _ s.requires.1.pos) at c.with_pos.ensures)

pub returns-else-is_over : goal.returns-else-is_over
unfolding held_edge
returns-else-is_over c =
    let o = c in
    let t = o in
    let b = t in
    rw (sym b.is_bounded.ensures ∙ t.if-is_bounded.true, sym o.is_over.ensures ∙ c.if-is_over.false)

pub returns-else-is_bounded : goal.returns-else-is_bounded
unfolding held_edge
returns-else-is_bounded c = rw (sym c.is_bounded.ensures ∙ c.if-is_bounded.false)
