-- `words_shape::element::is_edges` meets its contract.
use borrow.Author.Rules.{rules}
use Rattle.words_shape.specs.Shape.{edges_shown}
use Rattle.words_shape.proofs.element.is_edges.Goals as goal

pub returns : goal.returns
unfolding edges_shown
returns c = c.is_run.ensures
