-- `strong_words::place::strong_at` meets its contract.
use native.Mathlib.Omega.{arith}
use mathlib.Core.Path.{sym, ◌∙◌}
use Rattle.strong_words.proofs.Walks.{strong-held, strong-free}
use borrow.Author.Rules.{rules}
use Rattle.strong_words.proofs.place.strong_at.Goals as goal

pub is_held-requires : goal.is_held-requires
is_held-requires c = let p = c.requires.0 in (omega (arith, c.requires.1, p.marks_length), omega (arith, c.requires.1, p.weak_length))

pub returns-then-is_held : goal.returns-then-is_held
returns-then-is_held c =
    let a = c.args in
    sym (strong-held a.touched.now a.weak.now a.i _ a.fonts.now a.originals.now (sym c.is_held.ensures ∙ c.if-is_held.true))

pub free_at-requires : goal.free_at-requires
free_at-requires c = let p = c.requires.0 in (p.whole, p.axis, c.requires.1, p.originals_length, p.originals)

pub returns : goal.returns
returns c =
    let a = c.args in
    c.free_at.ensures ∙ sym (strong-free a.touched.now a.weak.now a.i _ a.fonts.now a.originals.now
    (sym c.is_held.ensures ∙ c.if-is_held.false))
