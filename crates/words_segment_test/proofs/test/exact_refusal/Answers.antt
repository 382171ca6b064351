-- `words_segment_test::test::exact_refusal` meets its contract.
use mathlib.Core.Path.{refl, sym, ap, ◌∙◌}
use native.Mathlib.Omega.{arith}
use Rattle.refusals.specs.Outcome.{answer_of}
use Rattle.refusals.proofs.Outcomes.{exit-answer, number-above}
use Rattle.words_call.proofs.Lents.{refused-first, passed_first}
use Rattle.words_call.proofs.Tested.{tested-own, tested-index, tested-range, tested-none}
use Rattle.words_edge_test.proofs.Answers.{both-hold, one-fails}
use Rattle.words_segment_test.proofs.test.exact_refusal.Goals as goal

pub returns-in_err-segments_refusal : goal.returns-in_err-segments_refusal
returns-in_err-segments_refusal c = exit-answer _ _ c.from_residual.ensures.1 ∙ refused-first _ _ c.in_err-segments_refusal.ensures (number-above _)

pub returns-in_err-own : goal.returns-in_err-own
returns-in_err-own c =
    let e = ap answer_of c.in_err-own.was in
    passed_first _ c.in_ok-segments_refusal.ensures (omega arith)
    (exit-answer _ _ c.from_residual-in_err-own.ensures.1 ∙ sym e ∙ tested-own (answer_of c.args.own) _ _ (rw e (number-above _)))

pub returns-then-not-indexed_hold : goal.returns-then-not-indexed_hold
returns-then-not-indexed_hold c =
    let own = ap answer_of c.in_ok-own.was in
    passed_first _ c.in_ok-segments_refusal.ensures (omega arith)
    (tested-index (answer_of c.args.own) _ _ (omega (arith, own)) (sym c.indexed_hold.ensures ∙ c.if-not-indexed_hold.true))

pub returns-then-passed : goal.returns-then-passed
returns-then-passed c =
    let own = ap answer_of c.in_ok-own.was in
    passed_first _ c.in_ok-segments_refusal.ensures (omega arith)
    (tested-none (answer_of c.args.own) _ _ (omega (arith, own)) (sym c.indexed_hold.ensures ∙ c.if-not-indexed_hold.false)
    (both-hold c.numbers_hold.ensures refl (c.if-numbers_hold.true, c.if-passed.true)))

pub returns : goal.returns
returns c =
    let own = ap answer_of c.in_ok-own.was in
    passed_first _ c.in_ok-segments_refusal.ensures (omega arith)
    (tested-range (answer_of c.args.own) _ _ (omega (arith, own)) (sym c.indexed_hold.ensures ∙ c.if-not-indexed_hold.false)
    (one-fails c.numbers_hold.ensures refl c.else-numbers_hold.either))
