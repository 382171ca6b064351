-- `lowercase_m::stems::applies` meets its contract.
use mathlib.Core.Path.{sym, ◌∙◌}
use Rattle.lowercase_m.specs.M.{even, applies}
use Rattle.lowercase_m.proofs.Places.{units-read, units-held}
use borrow.Author.Rules.{rules}
use Rattle.lowercase_m.proofs.stems.applies.Goals as goal

pub is_even-requires : goal.is_even-requires
is_even-requires c = let u = c.requires.between in (units-held _ u.0, units-held _ u.1, units-held _ u.2)

pub returns-then-group_holds : goal.returns-then-group_holds
unfolding applies
returns-then-group_holds c =
    let t = c in
    let u = t.requires.between in
    rw (sym t.group_holds.ensures ∙ t.if-group_holds.true)
    (c.is_even.ensures ∙ λ i. even (units-read _ u.0 i) (units-read _ u.1 i) (units-read _ u.2 i))

pub returns : goal.returns
unfolding applies
returns c = rw (sym c.group_holds.ensures ∙ c.if-group_holds.false)
