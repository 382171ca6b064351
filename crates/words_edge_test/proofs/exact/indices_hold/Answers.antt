-- `words_edge_test::exact::indices_hold` meets its contract.
use borrow.Author.Rules.{rules}
use Rattle.axis.specs.Refusals.{edge_passes, edges_indices}
use Rattle.words.specs.Edge.{axis_run, flat_axis}
use Rattle.words_edge_test.proofs.exact.indices_hold.Goals as goal

pub returns : goal.returns
unfolding edges_indices edge_passes flat_axis axis_run
returns c = c.every_edge.ensures
