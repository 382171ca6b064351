-- `words_shape::field::skip_field` meets its contract.
use native.Mathlib.Omega.{arith}
use mathlib.Core.Path.{sym, ◌∙◌}
use Rattle.words_shape.proofs.Shapes.{field_end, field_off, field-on}
use Rattle.words_shape.proofs.field.skip_field.Goals as goal

pub returns-then-words-at : goal.returns-then-words-at
returns-then-words-at c = let a = c.args in sym (field_end a.range a.words.now a.at c.if-words-at.true)

pub returns-then-in_at : goal.returns-then-in_at
returns-then-in_at c =
    let t = c in
    let a = t.args in sym (field-on a.range a.words.now a.at (omega arith) (sym t.in_at.ensures ∙ c.if-in_at.true))

pub returns : goal.returns
returns c =
    let t = c in
    let a = t.args in sym (field_off a.range a.words.now a.at (omega arith) (sym t.in_at.ensures ∙ c.if-in_at.false))
