-- `lowercase_m::stems::linked_on` meets its contract.
use mathlib.Core.Path.{sym, ◌∙◌}
use borrow.Author.Tests.{not-true, not-false}
use Rattle.lowercase_m.specs.M.{linked_on}
use borrow.Author.Rules.{rules}
use Rattle.lowercase_m.proofs.stems.linked_on.Goals as goal

pub returns-then-not-links_on : goal.returns-then-not-links_on
unfolding linked_on
returns-then-not-links_on c = rw (sym c.links_on.ensures ∙ c.if-not-links_on.true)

pub returns-then-not-links_on-2 : goal.returns-then-not-links_on-2
unfolding linked_on
returns-then-not-links_on-2 c =
    let b = c in
    rw (sym b.links_on.ensures ∙ b.if-not-links_on.false, sym c.links_on-2.ensures ∙ c.if-not-links_on-2.true)

pub returns : goal.returns
unfolding linked_on
returns c =
    let d = c in
    let b = d in
    rw (sym b.links_on.ensures ∙ b.if-not-links_on.false, sym d.links_on-2.ensures ∙ d.if-not-links_on-2.false)
    c.links_on-3.ensures
