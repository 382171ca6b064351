-- `axis::accept::edges_numbers` meets its contract.
use borrow.Author.Rules.{rules}
use Rattle.axis.specs.Refusals.{edge_passes, edges_numbers}
use Rattle.axis.proofs.accept.edges_numbers.Goals as goal

pub returns : goal.returns
unfolding edges_numbers edge_passes
returns c = c.every_edge.ensures
