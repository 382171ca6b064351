-- `stems::store::is_over` meets its contract.
use mathlib.Core.Path.{sym, ◌∙◌}
use Rattle.place.proofs.Reach.{reach-read}
use borrow.Author.Rules.{rules}
use Rattle.stems.proofs.store.is_over.Goals as goal

pub is_far-requires : goal.is_far-requires
is_far-requires c =
    let s = c in
    rw (reach-read _ s.requires.1.pos, reach-read _ s.requires.2.pos) (s.requires.2.pos, s.requires.1.pos)

pub returns-then-has_passed : goal.returns-then-has_passed
returns-then-has_passed c =
    let t = c in
    let p = t in
    let s = p in
    rw (sym (rw (reach-read _ s.requires.0.pos, reach-read _ s.requires.1.pos) at p.has_passed.ensures) ∙ t.if-has_passed.true)
    (rw (reach-read _ s.requires.1.pos, reach-read _ s.requires.2.pos) at c.is_far.ensures)

pub returns : goal.returns
returns c =
    let p = c in
    let s = p in
    rw (sym (rw (reach-read _ s.requires.0.pos, reach-read _ s.requires.1.pos) at p.has_passed.ensures) ∙ c.if-has_passed.false)
