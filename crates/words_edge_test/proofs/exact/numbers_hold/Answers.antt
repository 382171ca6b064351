-- `words_edge_test::exact::numbers_hold` meets its contract.
use borrow.Author.Rules.{rules}
use Rattle.axis.specs.Refusals.{edge_passes, edges_numbers}
use Rattle.words_edge_test.proofs.exact.numbers_hold.Goals as goal

pub returns : goal.returns
unfolding edges_numbers edge_passes
returns c = c.every_edge.ensures
