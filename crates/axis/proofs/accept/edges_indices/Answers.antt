-- `axis::accept::edges_indices` meets its contract.
use borrow.Author.Rules.{rules}
use Rattle.axis.specs.Refusals.{edge_passes, edges_indices}
use Rattle.axis.proofs.accept.edges_indices.Goals as goal

pub returns : goal.returns
unfolding edges_indices edge_passes
returns c = c.every_edge.ensures
