-- `stem_cjk_words::lend::lend_stem` meets its contract.
use mathlib.Core.Path.{◌≡◌, sym, ap, subst, ◌∙◌}
use native.Mathlib.Omega.{arith}
use mir.Syntax.{w32}
use Rattle.signed.specs.Range.{Between}
use Rattle.signed.proofs.Signed.{is}
use Rattle.signed.proofs.By.{by₃}
use Rattle.refusals.specs.Refusal.{bad_parameter, or_refused}
use Rattle.refusals.specs.Outcome.{answer_of}
use Rattle.refusals.proofs.Outcomes.{exit-answer, number-above}
use Rattle.fixed.specs.Width.{rule_holds}
use Rattle.axis.specs.Limits.{most_passed}
use Rattle.axis.specs.Refusals.{within}
use Rattle.words.specs.Field.{choice_of, dimension_of, rule_of}
use Rattle.words.proofs.Fields.{kept}
use Rattle.words_call.specs.Lent.{choices, named_edge}
use Rattle.words_edge_test.proofs.Answers.{own-required}
use Rattle.stem_cjk_words.proofs.Lending.{stem-ready, stem-right, stem-refused, stem-done}
use borrow.Author.Rules.{rules}
use Rattle.stem_cjk_words.proofs.lend.lend_stem.Goals as goal

pub returns-in_err-edges_test : goal.returns-in_err-edges_test
returns-in_err-edges_test c =
    let answer = exit-answer _ _ c.from_residual.ensures.1 in
    let rule-is : c.rule_of-width.result ≡ rule_of c.args.rule = c.rule_of-width.ensures ∙ ap rule_of (is c.ranges.rule) in
    let edge-is : c.named_edge-one.result ≡ named_edge c.args.edge = c.named_edge-one.ensures ∙ ap named_edge (is c.ranges.edge) in
    let edge2-is : c.named_edge-two.result ≡ named_edge c.args.edge2 = c.named_edge-two.ensures ∙ ap named_edge (is c.ranges.edge2) in
    let own_is : answer_of c.require-own.result ≡ or_refused 0 (rule_holds c.rule_of-width.result c.args.standards.now) bad_parameter =
    own-required c.require-own.ensures c.rule_holds.ensures in
    let choices-are : c.are_choices-others.result
    ≡ choices c.args.dim c.args.stem_adjust c.args.rule = by₃ choices c.are_choices-others.ensures (is c.ranges.dim) (is c.ranges.stem_adjust) (is c.ranges.rule) in
    let near-is : c.is_inside-passed.result ≡ within most_passed c.args.delta = c.is_inside-passed.ensures ∙ ap (within most_passed) (is c.ranges.delta) in
    stem-refused c.args.edges.now c.args.dim c.args.stem_adjust c.args.rule c.args.standards.now c.args.edge c.args.edge2
    c.args.delta c.args.own_delta.now
    rule-is edge-is edge2-is c.both_below-named.ensures own_is choices-are near-is (answer ∙ c.in_err-edges_test.ensures) (rw answer (number-above _))

pub stem_in-requires : goal.stem_in-requires
stem_in-requires c =
    let rule-is : c.rule_of-width.result ≡ rule_of c.args.rule = c.rule_of-width.ensures ∙ ap rule_of (is c.ranges.rule) in
    let edge-is : c.named_edge-one.result ≡ named_edge c.args.edge = c.named_edge-one.ensures ∙ ap named_edge (is c.ranges.edge) in
    let edge2-is : c.named_edge-two.result ≡ named_edge c.args.edge2 = c.named_edge-two.ensures ∙ ap named_edge (is c.ranges.edge2) in
    let own_is : answer_of c.require-own.result ≡ or_refused 0 (rule_holds c.rule_of-width.result c.args.standards.now) bad_parameter =
    own-required c.require-own.ensures c.rule_holds.ensures in
    let choices-are : c.are_choices-others.result
    ≡ choices c.args.dim c.args.stem_adjust c.args.rule = by₃ choices c.are_choices-others.ensures (is c.ranges.dim) (is c.ranges.stem_adjust) (is c.ranges.rule) in
    let near-is : c.is_inside-passed.result ≡ within most_passed c.args.delta = c.is_inside-passed.ensures ∙ ap (within most_passed) (is c.ranges.delta) in
    let a =
    stem-ready c.args.edges.now c.args.dim c.args.stem_adjust c.args.rule c.args.standards.now c.args.edge c.args.edge2
    c.args.delta c.args.own_delta.now
    rule-is edge-is edge2-is c.both_below-named.ensures own_is choices-are near-is c.in_ok-edges_test.ensures (omega arith) in
    let r =
    stem-right c.args.edges.now c.args.dim c.args.stem_adjust c.args.rule c.args.standards.now c.args.edge c.args.edge2
    c.args.delta c.args.own_delta.now
    rule-is edge-is edge2-is c.both_below-named.ensures own_is choices-are near-is c.in_ok-edges_test.ensures (omega arith) in
    record { standards_value = r; whole = a.words; in_reach = (a.numbers.0, a.numbers.1, subst (Between most_passed most_passed) (sym (is c.ranges.delta)) a.numbers.2) }

pub returns : goal.returns
returns c =
    let rule-is : c.rule_of-width.result ≡ rule_of c.args.rule = c.rule_of-width.ensures ∙ ap rule_of (is c.ranges.rule) in
    let edge-is : c.named_edge-one.result ≡ named_edge c.args.edge = c.named_edge-one.ensures ∙ ap named_edge (is c.ranges.edge) in
    let edge2-is : c.named_edge-two.result ≡ named_edge c.args.edge2 = c.named_edge-two.ensures ∙ ap named_edge (is c.ranges.edge2) in
    let own_is : answer_of c.require-own.result ≡ or_refused 0 (rule_holds c.rule_of-width.result c.args.standards.now) bad_parameter =
    own-required c.require-own.ensures c.rule_holds.ensures in
    let choices-are : c.are_choices-others.result
    ≡ choices c.args.dim c.args.stem_adjust c.args.rule = by₃ choices c.are_choices-others.ensures (is c.ranges.dim) (is c.ranges.stem_adjust) (is c.ranges.rule) in
    let near-is : c.is_inside-passed.result ≡ within most_passed c.args.delta = c.is_inside-passed.ensures ∙ ap (within most_passed) (is c.ranges.delta) in
    stem-done c.args.edges.now c.args.dim c.args.stem_adjust c.args.rule c.args.standards.now c.args.edge c.args.edge2
    c.args.delta c.args.own_delta.now
    rule-is edge-is edge2-is c.both_below-named.ensures own_is choices-are near-is c.in_ok-edges_test.ensures (omega arith)
    (c.dimension_of-axis.ensures ∙ ap dimension_of (is c.ranges.dim)) (c.choice_of-adjust.ensures ∙ ap choice_of (is c.ranges.stem_adjust))
    (is c.ranges.delta)
    (kept w32 c.stem_in.result c.stem_in.type_inv) c.stem_in.ensures
