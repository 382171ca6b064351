-- `words_edge_test::hold::is_zero` meets its contract.
use Rattle.words_edge_test.proofs.Holding.{zero_is}
use Rattle.words_edge_test.proofs.hold.is_zero.Goals as goal

pub returns : goal.returns
returns c = zero_is c.args.word c.ranges.word
