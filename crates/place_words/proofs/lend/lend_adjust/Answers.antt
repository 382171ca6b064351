-- `place_words::lend::lend_adjust` meets its contract.
use mathlib.Core.Path.{◌≡◌, refl, ap, ◌∙◌}
use Rattle.signed.proofs.Signed.{is}
use Rattle.signed.proofs.By.{by₂}
use Rattle.words.specs.Field.{choice_of}
use Rattle.place_words.specs.Lent.{link_dir_of}
use Rattle.words_shape.specs.Shape.{choice}
use Rattle.words_call.specs.Lent.{both_in, named_edge}
use native.Mathlib.Omega.{arith}
use Rattle.refusals.specs.Outcome.{answer_of}
use Rattle.refusals.proofs.Outcomes.{number-above, exit-answer}
use Rattle.place_words.proofs.Lending.{own-answer, ReadyOne, adjust-ready, adjust-refused, adjust-done}
use borrow.Author.Rules.{rules}
use Rattle.place_words.proofs.lend.lend_adjust.Goals as goal

pub returns-in_err-edges_test : goal.returns-in_err-edges_test
returns-in_err-edges_test c =
    let edge-is : c.named_edge-at.result ≡ named_edge c.args.edge = c.named_edge-at.ensures ∙ ap named_edge (is c.ranges.edge) in
    let order_is : c.choice_of.result ≡ choice_of c.args.top_to_bottom = c.choice_of.ensures ∙ ap choice_of (is c.ranges.top_to_bottom) in
    let choices-are : c.both_in-others.result
    ≡ both_in choice c.args.dir c.args.top_to_bottom = by₂ (both_in choice) c.both_in-others.ensures (is c.ranges.dir) (is c.ranges.top_to_bottom) in
    rw (exit-answer _ _ c.from_residual.ensures.1)
    (adjust-refused c.args.edges.now c.args.edge c.args.dir c.args.top_to_bottom edge-is refl order_is
    (own-answer c.require-own.ensures refl) choices-are
    c.in_err-edges_test.ensures (number-above _))

pub adjust_in-requires : goal.adjust_in-requires
adjust_in-requires c =
    let edge-is : c.named_edge-at.result ≡ named_edge c.args.edge = c.named_edge-at.ensures ∙ ap named_edge (is c.ranges.edge) in
    let order_is : c.choice_of.result ≡ choice_of c.args.top_to_bottom = c.choice_of.ensures ∙ ap choice_of (is c.ranges.top_to_bottom) in
    let choices-are : c.both_in-others.result
    ≡ both_in choice c.args.dir c.args.top_to_bottom = by₂ (both_in choice) c.both_in-others.ensures (is c.ranges.dir) (is c.ranges.top_to_bottom) in
    let a =
    adjust-ready c.args.edges.now c.args.edge c.args.dir c.args.top_to_bottom edge-is refl order_is
    (own-answer c.require-own.ensures refl) choices-are
    c.in_ok-edges_test.ensures (omega arith) in
    (a.whole, a.axis, a.below)

pub returns : goal.returns
returns c =
    let edge-is : c.named_edge-at.result ≡ named_edge c.args.edge = c.named_edge-at.ensures ∙ ap named_edge (is c.ranges.edge) in
    let order_is : c.choice_of.result ≡ choice_of c.args.top_to_bottom = c.choice_of.ensures ∙ ap choice_of (is c.ranges.top_to_bottom) in
    let choices-are : c.both_in-others.result
    ≡ both_in choice c.args.dir c.args.top_to_bottom = by₂ (both_in choice) c.both_in-others.ensures (is c.ranges.dir) (is c.ranges.top_to_bottom) in
    adjust-done c.args.edges.now c.args.edge c.args.dir c.args.top_to_bottom edge-is refl order_is
    (own-answer c.require-own.ensures refl) choices-are
    c.in_ok-edges_test.ensures (omega arith)
    (c.link_dir_of.ensures ∙ ap link_dir_of (is c.ranges.dir)) _ c.adjust_in.ensures
