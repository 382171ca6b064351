-- `words_shape::element::is_segments` meets its contract.
use borrow.Author.Rules.{rules}
use Rattle.words_shape.specs.Shape.{segments_shown}
use Rattle.words_shape.proofs.element.is_segments.Goals as goal

pub returns : goal.returns
unfolding segments_shown
returns c = c.is_run.ensures
