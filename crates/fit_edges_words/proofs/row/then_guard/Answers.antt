-- `fit_edges_words::row::then_guard` meets its contract.
use mathlib.Core.Path.{refl, sym, ◌∙◌}
use borrow.Author.Tests.{not-true, not-false}
use borrow.Author.Rules.{rules}
use Rattle.fit_edges_words.proofs.Steps.{guard-stops, ready-accepted}
use Rattle.fit_edges_words.proofs.row.then_guard.Goals as goal

pub positions_hold-requires : goal.positions_hold-requires
positions_hold-requires c = c.requires.whole

pub returns-then-not-positions_hold : goal.returns-then-not-positions_hold
returns-then-not-positions_hold c =
    let p = c in
    let s = p in
    let a = s.args in
    guard-stops a.by a.count a.anchor a.words.now s.requires (sym p.positions_hold.ensures ∙ c.if-not-positions_hold.true) refl

pub guarded-requires : goal.guarded-requires
guarded-requires c =
    let p = c in
    let s = p in
    let a = s.args in
    ready-accepted a.by a.count a.anchor a.words.now s.requires (sym p.positions_hold.ensures ∙ c.if-not-positions_hold.false)

pub returns : goal.returns
returns c = c.guarded.ensures
