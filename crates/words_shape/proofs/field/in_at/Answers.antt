-- `words_shape::field::in_at` meets its contract.
use mathlib.Core.Path.{ap, ◌∙◌}
use mir.Syntax.{w32}
use Rattle.signed.proofs.Signed.{is, got}
use Rattle.words_shape.specs.Shape.{is_in}
use Rattle.words_shape.proofs.field.in_at.Goals as goal

pub returns : goal.returns
returns c = c.is_in.ensures ∙ ap (is_in c.args.range) (is (got w32 _ c.word-1.given))
