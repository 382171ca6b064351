-- `place_words::lend::lend_bounds` meets its contract.
use mathlib.Core.Path.{◌≡◌, refl, ap, ◌∙◌}
use mir.Syntax.{w32}
use Rattle.signed.proofs.Signed.{is}
use Rattle.words.proofs.Fields.{kept}
use Rattle.words_call.specs.Lent.{named_edge}
use native.Mathlib.Omega.{arith}
use Rattle.refusals.specs.Outcome.{answer_of}
use Rattle.refusals.proofs.Outcomes.{number-above, exit-answer}
use Rattle.place_words.proofs.Lending.{own-answer, ReadyOne, bounds-ready, bounds-refused, bounds-done}
use borrow.Author.Rules.{rules}
use Rattle.place_words.proofs.lend.lend_bounds.Goals as goal

pub returns-in_err-edges_test : goal.returns-in_err-edges_test
returns-in_err-edges_test c =
    let edge-is : c.named_edge-at.result ≡ named_edge c.args.edge = c.named_edge-at.ensures ∙ ap named_edge (is c.ranges.edge) in
    rw (exit-answer _ _ c.from_residual.ensures.1)
    (bounds-refused c.args.edges.now c.args.edge (c.args.lower.now, c.args.upper.now) edge-is refl c.in_err-edges_test.ensures (number-above _))

pub upper_in-above-requires : goal.upper_in-above-requires
upper_in-above-requires c =
    let edge-is : c.named_edge-at.result ≡ named_edge c.args.edge = c.named_edge-at.ensures ∙ ap named_edge (is c.ranges.edge) in
    let found : ReadyOne c.args.edges.now c.named_edge-at.result = bounds-ready c.args.edges.now c.args.edge (c.args.lower.now, c.args.upper.now) edge-is refl c.in_ok-edges_test.ensures (omega arith) in
    (found.whole, found.below)

pub lower_bound-below-requires : goal.lower_bound-below-requires
lower_bound-below-requires c =
    let edge-is : c.named_edge-at.result ≡ named_edge c.args.edge = c.named_edge-at.ensures ∙ ap named_edge (is c.ranges.edge) in
    let found : ReadyOne c.args.edges.now c.named_edge-at.result = bounds-ready c.args.edges.now c.args.edge (c.args.lower.now, c.args.upper.now) edge-is refl c.in_ok-edges_test.ensures (omega arith) in
    let a = found in omega (arith, a.whole.few, a.below)

pub returns : goal.returns
returns c =
    let edge-is : c.named_edge-at.result ≡ named_edge c.args.edge = c.named_edge-at.ensures ∙ ap named_edge (is c.ranges.edge) in
    bounds-done c.args.edges.now c.args.edge (c.args.lower.now, c.args.upper.now) edge-is refl c.in_ok-edges_test.ensures (omega arith)
    c.lower_bound-below.ensures c.upper_in-above.ensures _ _
    (kept w32 c.link_word-2.result c.link_word-2.type_inv ∙ c.link_word-2.ensures) (kept w32 c.link_word.result c.link_word.type_inv ∙ c.link_word.ensures)
