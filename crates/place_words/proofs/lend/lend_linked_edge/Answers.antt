-- `place_words::lend::lend_linked_edge` meets its contract.
use mathlib.Core.Path.{◌≡◌, ap, ◌∙◌}
use mathlib.Core.Bool.{Bool}
use Rattle.signed.proofs.Signed.{is}
use Rattle.refusals.specs.Refusal.{bad_parameter, or_refused}
use Rattle.fixed.specs.Width.{rule_holds}
use Rattle.words.specs.Field.{rule_of}
use Rattle.words_shape.specs.Shape.{is_in, choice}
use Rattle.words_call.specs.Lent.{named_edge}
use native.Mathlib.Omega.{arith}
use Rattle.refusals.specs.Outcome.{answer_of}
use Rattle.refusals.proofs.Outcomes.{number-above, exit-answer}
use Rattle.place_words.proofs.Lending.{own-answer, linked-ready, linked-right, linked-refused, linked-done}
use borrow.Author.Rules.{rules}
use Rattle.place_words.proofs.lend.lend_linked_edge.Goals as goal

pub returns-in_err-edges_test : goal.returns-in_err-edges_test
returns-in_err-edges_test c =
    let rule-is : c.rule_of-width.result ≡ rule_of c.args.rule = c.rule_of-width.ensures ∙ ap rule_of (is c.ranges.rule) in
    let base-is : c.named_edge-from.result ≡ named_edge c.args.base = c.named_edge-from.ensures ∙ ap named_edge (is c.ranges.base) in
    let stem-is : c.named_edge-to.result ≡ named_edge c.args.stem = c.named_edge-to.ensures ∙ ap named_edge (is c.ranges.stem) in
    let own_is : answer_of c.require-own.result ≡ or_refused 0 (rule_holds c.rule_of-width.result c.args.standards.now) bad_parameter =
    own-answer c.require-own.ensures c.rule_holds.ensures in
    let choice-is : c.is_in.result ≡ is_in choice c.args.rule = c.is_in.ensures ∙ ap (is_in choice) (is c.ranges.rule) in
    rw (exit-answer _ _ c.from_residual.ensures.1)
    (linked-refused c.args.edges.now c.args.rule c.args.standards.now c.args.base c.args.stem rule-is base-is stem-is
    c.both_below-named.ensures own_is
    choice-is c.in_err-edges_test.ensures (number-above _))

pub linked_in-requires : goal.linked_in-requires
linked_in-requires c =
    let rule-is : c.rule_of-width.result ≡ rule_of c.args.rule = c.rule_of-width.ensures ∙ ap rule_of (is c.ranges.rule) in
    let base-is : c.named_edge-from.result ≡ named_edge c.args.base = c.named_edge-from.ensures ∙ ap named_edge (is c.ranges.base) in
    let stem-is : c.named_edge-to.result ≡ named_edge c.args.stem = c.named_edge-to.ensures ∙ ap named_edge (is c.ranges.stem) in
    let own_is : answer_of c.require-own.result ≡ or_refused 0 (rule_holds c.rule_of-width.result c.args.standards.now) bad_parameter =
    own-answer c.require-own.ensures c.rule_holds.ensures in
    let choice-is : c.is_in.result ≡ is_in choice c.args.rule = c.is_in.ensures ∙ ap (is_in choice) (is c.ranges.rule) in
    let a =
    linked-ready c.args.edges.now c.args.rule c.args.standards.now c.args.base c.args.stem rule-is base-is stem-is
    c.both_below-named.ensures own_is
    choice-is c.in_ok-edges_test.ensures (omega arith) in
    let r =
    linked-right c.args.edges.now c.args.rule c.args.standards.now c.args.base c.args.stem rule-is base-is stem-is
    c.both_below-named.ensures own_is
    choice-is c.in_ok-edges_test.ensures (omega arith) in
    let w = a.words in
    let g = a.edges in
    search rules

pub returns : goal.returns
returns c =
    let rule-is : c.rule_of-width.result ≡ rule_of c.args.rule = c.rule_of-width.ensures ∙ ap rule_of (is c.ranges.rule) in
    let base-is : c.named_edge-from.result ≡ named_edge c.args.base = c.named_edge-from.ensures ∙ ap named_edge (is c.ranges.base) in
    let stem-is : c.named_edge-to.result ≡ named_edge c.args.stem = c.named_edge-to.ensures ∙ ap named_edge (is c.ranges.stem) in
    let own_is : answer_of c.require-own.result ≡ or_refused 0 (rule_holds c.rule_of-width.result c.args.standards.now) bad_parameter =
    own-answer c.require-own.ensures c.rule_holds.ensures in
    let choice-is : c.is_in.result ≡ is_in choice c.args.rule = c.is_in.ensures ∙ ap (is_in choice) (is c.ranges.rule) in
    linked-done c.args.edges.now c.args.rule c.args.standards.now c.args.base c.args.stem rule-is base-is stem-is
    c.both_below-named.ensures own_is
    choice-is c.in_ok-edges_test.ensures (omega arith) _ c.linked_in.ensures
