-- `words_segment_test::exact::numbers_hold` meets its contract.
use borrow.Author.Rules.{rules}
use Rattle.axis.specs.Refusals.{segment_passes, segments_numbers}
use Rattle.words_segment_test.proofs.exact.numbers_hold.Goals as goal

pub returns : goal.returns
unfolding segments_numbers segment_passes
returns c = c.every_segment.ensures
