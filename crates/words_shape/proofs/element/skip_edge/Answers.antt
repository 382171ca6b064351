-- `words_shape::element::skip_edge` meets its contract.
use borrow.Author.Rules.{rules}
use native.Mathlib.Omega.{arith}
use mathlib.Core.Path.{sym, ap, ◌∙◌}
use mir.Syntax.{w32}
use mir.Val.{to_z, of_z}
use Rattle.words.proofs.Fields.{kept}
use Rattle.words_shape.specs.declared.element.Record.TheVariants.{Edge}
use Rattle.words_shape.specs.Shape.{ranges_of}
use Rattle.words_shape.proofs.Shapes.{fields-place, edge-nowhere, edge-blue, edge-plain, edge-breaks}
use Rattle.words_shape.proofs.element.skip_edge.Goals as goal

pub returns-in_err-next : goal.returns-in_err-next
returns-in_err-next c =
    c.from_residual.ensures ∙ edge-nowhere c.args.words.now c.args.at (sym c.skip_record.ensures ∙ c.in_err-next.was)

pub overflow_add-at : goal.overflow_add-at
overflow_add-at c =
    let there = sym c.skip_record.ensures ∙ c.in_ok-next.was in
    omega (arith, fields-place (ranges_of Edge) c.args.words.now c.args.at _ there)

pub returns-then-word_at-eq1 : goal.returns-then-word_at-eq1
returns-then-word_at-eq1 c =
    let there = sym c.skip_record.ensures ∙ c.in_ok-next.was in
    let w = c.word_at in
    edge-blue c.args.words.now c.args.at _ there
    (sym w.ensures ∙ sym (kept w32 w.result w.type_inv) ∙ ap (to_z w32) c.if-word_at-eq1.true)

pub overflow_add-at-2 : goal.overflow_add-at-2
overflow_add-at-2 c =
    let there = sym c.skip_record.ensures ∙ c.in_ok-next.was in
    omega (arith, fields-place (ranges_of Edge) c.args.words.now c.args.at _ there)

pub returns-then-word_at-eq0 : goal.returns-then-word_at-eq0
returns-then-word_at-eq0 c =
    let there = sym c.skip_record.ensures ∙ c.in_ok-next.was in
    let w = c.word_at-2 in
    edge-plain c.args.words.now c.args.at _ there
    (sym w.ensures ∙ sym (kept w32 w.result w.type_inv) ∙ ap (to_z w32) c.if-word_at-eq0.true)

pub returns : goal.returns
returns c =
    let there = sym c.skip_record.ensures ∙ c.in_ok-next.was in
    edge-breaks c.args.words.now c.args.at _ there
    (λ q. c.if-word_at-eq1.false (ap (of_z w32) (c.word_at.ensures ∙ q)))
    (λ q. c.if-word_at-eq0.false (ap (of_z w32) (c.word_at-2.ensures ∙ q)))
