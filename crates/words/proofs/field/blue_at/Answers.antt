-- `words::field::blue_at` meets its contract.
use Rattle.words.specs.Field.{blue_of}
use mathlib.Core.Path.{◌∙◌}
use mir.Syntax.{w32}
use Rattle.words.proofs.Fields.{kept}
use Rattle.words.proofs.field.blue_at.Goals as goal

pub returns : goal.returns
returns c =
    let fitted = c.word_at-2 in
    let present = c.word_at in
    c.blue_of.ensures ∙ (λ n. blue_of ((kept w32 present.result present.type_inv ∙ present.ensures) n)
    ((kept w32 fitted.result fitted.type_inv ∙ fitted.ensures) n))
