-- `fit_edges_words::row::then_m` meets its contract.
use mathlib.Core.Path.{◌≡◌, refl, sym, ◌∙◌}
use mathlib.Core.Bool.{true}
use borrow.Author.Tests.{not-true, not-false}
use borrow.Author.Rules.{rules}
use Rattle.words.specs.Edge.{edges_in}
use Rattle.words_call.specs.Lent.{edges_of}
use Rattle.fit.specs.Numbers.{is_asked}
use Rattle.fit_edges_words.specs.Row.{positions_hold}
use Rattle.fit_edges_words.proofs.Steps.{m-passed, m-stops, m-ready, m-behind, m-goes}
use Rattle.fit_edges_words.proofs.row.then_m.Goals as goal

pub then_remaining-requires : goal.then_remaining-requires
then_remaining-requires c = c.requires

pub shape_of-words-then-not-is_asked : goal.shape_of-words-then-not-is_asked
shape_of-words-then-not-is_asked c = c.then_remaining.ensures.long

pub returns-then-not-is_asked : goal.returns-then-not-is_asked
returns-then-not-is_asked c =
    let a = c.args in
    m-passed a.by a.count a.anchor c.requires (sym c.is_asked.ensures ∙ c.if-not-is_asked.true) c.then_remaining.ensures

pub positions_hold-requires : goal.positions_hold-requires
positions_hold-requires c = c.requires.whole

pub returns-then-not-positions_hold : goal.returns-then-not-positions_hold
returns-then-not-positions_hold c =
    let asked : is_asked c.args.by (edges_in c.args.words.now) ≡ true =
    sym c.is_asked.ensures ∙ c.if-not-is_asked.false in
    let a = c.args in
    m-stops a.by a.count a.anchor c.requires asked (sym c.positions_hold.ensures ∙ c.if-not-positions_hold.true) refl

pub m_in-requires : goal.m_in-requires
m_in-requires c =
    let asked : is_asked c.args.by (edges_in c.args.words.now) ≡ true =
    sym c.is_asked.ensures ∙ c.if-not-is_asked.false in
    let hold : positions_hold (edges_of c.args.words.now) ≡ true =
    sym c.positions_hold.ensures ∙ c.if-not-positions_hold.false in
    let a = c.args in
    m-ready a.by a.count a.anchor c.requires asked hold

pub then_remaining-requires-2 : goal.then_remaining-requires-2
then_remaining-requires-2 c =
    let asked : is_asked c.args.by (edges_in c.args.words.now) ≡ true =
    sym c.is_asked.ensures ∙ c.if-not-is_asked.false in
    let hold : positions_hold (edges_of c.args.words.now) ≡ true =
    sym c.positions_hold.ensures ∙ c.if-not-positions_hold.false in
    let a = c.args in
    m-behind a.by a.count a.anchor c.requires asked hold c.m_in.ensures

pub shape_of-words : goal.shape_of-words
shape_of-words c = c.then_remaining-2.ensures.long ∙ c.m_in.ensures.long

pub returns : goal.returns
returns c =
    let asked : is_asked c.args.by (edges_in c.args.words.now) ≡ true =
    sym c.is_asked.ensures ∙ c.if-not-is_asked.false in
    let hold : positions_hold (edges_of c.args.words.now) ≡ true =
    sym c.positions_hold.ensures ∙ c.if-not-positions_hold.false in
    let a = c.args in
    m-goes a.by a.count a.anchor c.requires asked hold c.m_in.ensures c.then_remaining-2.ensures
