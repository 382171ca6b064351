-- `zones_words::lend::lend_zones` meets its contract.
use mathlib.Core.Path.{◌≡◌, ap, ◌∙◌}
use native.Mathlib.Omega.{arith}
use mir.Syntax.{w32}
use Rattle.signed.proofs.Signed.{is, got}
use Rattle.signed.proofs.By.{by₃}
use Rattle.refusals.specs.Refusal.{bad_parameter, or_refused}
use Rattle.refusals.specs.Outcome.{answer_of}
use Rattle.refusals.proofs.Outcomes.{exit-answer, number-above}
use Rattle.fixed.specs.Width.{rule_holds}
use Rattle.words.specs.Field.{dimension_of, group_of, rule_of}
use Rattle.words_call.specs.Lent.{choices}
use Rattle.words_edge_test.proofs.Answers.{own-required}
use Rattle.zones_words.proofs.Lending.{zones-ready, zones-refused, zones-done}
use Rattle.zones_words.proofs.lend.lend_zones.Goals as goal

pub returns-in_err-edges_test : goal.returns-in_err-edges_test
returns-in_err-edges_test c =
    let answer = exit-answer _ _ c.from_residual.ensures.1 in
    let rule-is : c.rule_of-width.result ≡ rule_of c.args.rule = c.rule_of-width.ensures ∙ ap rule_of (is c.ranges.rule) in
    let own_is : answer_of c.require-own.result ≡ or_refused 0 (rule_holds c.rule_of-width.result c.args.standards.now) bad_parameter =
    own-required c.require-own.ensures c.rule_holds.ensures in
    let choices-are : c.are_choices-others.result ≡ choices c.args.dim c.args.group c.args.rule =
    by₃ choices c.are_choices-others.ensures (is c.ranges.dim) (is c.ranges.group) (is c.ranges.rule) in
    zones-refused c.args.edges.now c.args.dim c.args.group c.args.rule c.args.standards.now c.args.anchor.now rule-is
    own_is choices-are
    (answer ∙ c.in_err-edges_test.ensures) (rw answer (number-above _))

pub where_zoned_in-found-requires : goal.where_zoned_in-found-requires
where_zoned_in-found-requires c =
    let rule-is : c.rule_of-width.result ≡ rule_of c.args.rule = c.rule_of-width.ensures ∙ ap rule_of (is c.ranges.rule) in
    let own_is : answer_of c.require-own.result ≡ or_refused 0 (rule_holds c.rule_of-width.result c.args.standards.now) bad_parameter =
    own-required c.require-own.ensures c.rule_holds.ensures in
    let choices-are : c.are_choices-others.result ≡ choices c.args.dim c.args.group c.args.rule =
    by₃ choices c.are_choices-others.ensures (is c.ranges.dim) (is c.ranges.group) (is c.ranges.rule) in
    let r = zones-ready c.args.edges.now c.args.dim c.args.group c.args.rule c.args.standards.now c.args.anchor.now rule-is own_is
    choices-are
    c.in_ok-edges_test.ensures (omega arith) in
    record { standards_value = r.0; whole = r.1 }

pub returns : goal.returns
returns c =
    let rule-is : c.rule_of-width.result ≡ rule_of c.args.rule = c.rule_of-width.ensures ∙ ap rule_of (is c.ranges.rule) in
    let own_is : answer_of c.require-own.result ≡ or_refused 0 (rule_holds c.rule_of-width.result c.args.standards.now) bad_parameter =
    own-required c.require-own.ensures c.rule_holds.ensures in
    let choices-are : c.are_choices-others.result ≡ choices c.args.dim c.args.group c.args.rule =
    by₃ choices c.are_choices-others.ensures (is c.ranges.dim) (is c.ranges.group) (is c.ranges.rule) in
    zones-done c.args.edges.now c.args.dim c.args.group c.args.rule c.args.standards.now c.args.anchor.now rule-is own_is
    choices-are
    c.in_ok-edges_test.ensures (omega arith) (c.dimension_of-axis.ensures ∙ ap dimension_of (is c.ranges.dim))
    (c.group_of.ensures ∙ ap group_of (is c.ranges.group))
    (is (got w32 c.link_word.result c.link_word.type_inv) ∙ c.link_word.ensures) c.where_zoned_in-found.ensures
