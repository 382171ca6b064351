-- `words_shape::element::skip_element` meets its contract.
use borrow.Author.Rules.{rules}
use Rattle.words_shape.specs.Shape.{element}
use Rattle.words_shape.proofs.element.skip_element.Goals as goal

pub returns-in-Number : goal.returns-in-Number
unfolding element
returns-in-Number c = rw c.in-Number.is c.skip_field.ensures

pub returns-in-Segment : goal.returns-in-Segment
unfolding element
returns-in-Segment c = rw c.in-Segment.is c.skip_record.ensures

pub returns-in-Edge : goal.returns-in-Edge
unfolding element
returns-in-Edge c = rw c.in-Edge.is c.skip_edge.ensures
