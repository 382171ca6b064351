-- `place_words::lend::lend_serif_edge` meets its contract.
use mathlib.Core.Path.{◌≡◌, ap, ◌∙◌}
use Rattle.signed.proofs.Signed.{is}
use Rattle.words_call.specs.Lent.{named_edge}
use native.Mathlib.Omega.{arith}
use Rattle.refusals.specs.Outcome.{answer_of}
use Rattle.refusals.proofs.Outcomes.{number-above, exit-answer}
use Rattle.place_words.proofs.Lending.{own-answer, serif-ready, serif-refused, serif-done}
use borrow.Author.Rules.{rules}
use Rattle.place_words.proofs.lend.lend_serif_edge.Goals as goal

pub returns-in_err-edges_test : goal.returns-in_err-edges_test
returns-in_err-edges_test c =
    let base-is : c.named_edge-from.result ≡ named_edge c.args.base = c.named_edge-from.ensures ∙ ap named_edge (is c.ranges.base) in
    let serif-is : c.named_edge-to.result ≡ named_edge c.args.serif = c.named_edge-to.ensures ∙ ap named_edge (is c.ranges.serif) in
    rw (exit-answer _ _ c.from_residual.ensures.1)
    (serif-refused c.args.edges.now c.args.base c.args.serif base-is serif-is c.both_below-named.ensures
    c.in_err-edges_test.ensures (number-above _))

pub serif_in-requires : goal.serif_in-requires
serif_in-requires c =
    let base-is : c.named_edge-from.result ≡ named_edge c.args.base = c.named_edge-from.ensures ∙ ap named_edge (is c.ranges.base) in
    let serif-is : c.named_edge-to.result ≡ named_edge c.args.serif = c.named_edge-to.ensures ∙ ap named_edge (is c.ranges.serif) in
    let a = serif-ready c.args.edges.now c.args.base c.args.serif base-is serif-is c.both_below-named.ensures
    c.in_ok-edges_test.ensures (omega arith) in
    let w = a.words in
    let g = a.edges in
    search rules

pub returns : goal.returns
returns c =
    let base-is : c.named_edge-from.result ≡ named_edge c.args.base = c.named_edge-from.ensures ∙ ap named_edge (is c.ranges.base) in
    let serif-is : c.named_edge-to.result ≡ named_edge c.args.serif = c.named_edge-to.ensures ∙ ap named_edge (is c.ranges.serif) in
    serif-done c.args.edges.now c.args.base c.args.serif base-is serif-is c.both_below-named.ensures
    c.in_ok-edges_test.ensures (omega arith) _
    c.serif_in.ensures
