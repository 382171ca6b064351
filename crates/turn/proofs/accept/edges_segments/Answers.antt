-- `turn::accept::edges_segments` meets its contract.
use borrow.Author.Rules.{rules}
use Rattle.axis.specs.Refusals.{edge_passes}
use Rattle.turn.specs.Indices.{edges_segments}
use Rattle.turn.proofs.accept.edges_segments.Goals as goal

pub returns : goal.returns
unfolding edges_segments edge_passes
returns c = c.every_edge.ensures
