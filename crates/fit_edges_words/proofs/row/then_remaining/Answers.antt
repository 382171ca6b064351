-- `fit_edges_words::row::then_remaining` meets its contract.
use mathlib.Core.Path.{◌≡◌, refl, sym, ◌∙◌}
use mathlib.Core.Bool.{true}
use borrow.Author.Tests.{not-true, not-false}
use borrow.Author.Rules.{rules}
use Rattle.words_call.specs.Lent.{edges_of}
use Rattle.fit.specs.Edges.{is_left}
use Rattle.fit_edges_words.specs.Row.{positions_hold}
use Rattle.fit_edges_words.proofs.Steps.{remaining-passed, remaining-stops, remaining-ready, remaining-beyond, remaining-accepted, remaining-goes}
use Rattle.fit_edges_words.proofs.row.then_remaining.Goals as goal

pub then_guard-requires : goal.then_guard-requires
then_guard-requires c = c.requires

pub returns-then-not-is_left : goal.returns-then-not-is_left
returns-then-not-is_left c =
    let a = c.args in
    remaining-passed a.by a.count a.anchor c.requires (sym c.is_left.ensures ∙ c.if-not-is_left.true) c.then_guard.ensures

pub positions_hold-requires : goal.positions_hold-requires
positions_hold-requires c = c.requires.whole

pub returns-then-not-positions_hold : goal.returns-then-not-positions_hold
returns-then-not-positions_hold c =
    let left : is_left c.args.count c.args.anchor ≡ true = sym c.is_left.ensures ∙ c.if-not-is_left.false in
    let a = c.args in
    remaining-stops a.by a.count a.anchor c.requires left (sym c.positions_hold.ensures ∙ c.if-not-positions_hold.true) refl

pub pass_in-past-requires : goal.pass_in-past-requires
pass_in-past-requires c =
    let left : is_left c.args.count c.args.anchor ≡ true = sym c.is_left.ensures ∙ c.if-not-is_left.false in
    let hold : positions_hold (edges_of c.args.words.now) ≡ true =
    sym c.positions_hold.ensures ∙ c.if-not-positions_hold.false in
    let a = c.args in
    remaining-ready a.by a.count a.anchor c.requires left hold

pub shape_of-words-then-past : goal.shape_of-words-then-past
shape_of-words-then-past c = c.pass_in-past.ensures.long

pub returns-then-past : goal.returns-then-past
returns-then-past c =
    let left : is_left c.args.count c.args.anchor ≡ true = sym c.is_left.ensures ∙ c.if-not-is_left.false in
    let hold : positions_hold (edges_of c.args.words.now) ≡ true =
    sym c.positions_hold.ensures ∙ c.if-not-positions_hold.false in
    let a = c.args in
    remaining-beyond a.by a.count a.anchor c.requires left hold c.pass_in-past.ensures c.if-past.true refl

pub guarded-requires : goal.guarded-requires
guarded-requires c =
    let left : is_left c.args.count c.args.anchor ≡ true = sym c.is_left.ensures ∙ c.if-not-is_left.false in
    let hold : positions_hold (edges_of c.args.words.now) ≡ true =
    sym c.positions_hold.ensures ∙ c.if-not-positions_hold.false in
    let a = c.args in
    remaining-accepted a.by a.count a.anchor c.requires left hold c.pass_in-past.ensures

pub shape_of-words : goal.shape_of-words
shape_of-words c = c.pass_in-past.ensures.long

pub returns : goal.returns
returns c =
    let left : is_left c.args.count c.args.anchor ≡ true = sym c.is_left.ensures ∙ c.if-not-is_left.false in
    let hold : positions_hold (edges_of c.args.words.now) ≡ true =
    sym c.positions_hold.ensures ∙ c.if-not-positions_hold.false in
    let a = c.args in
    remaining-goes a.by a.count a.anchor c.requires left hold c.pass_in-past.ensures c.if-past.false c.guarded.ensures
