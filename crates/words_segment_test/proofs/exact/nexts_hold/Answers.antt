-- `words_segment_test::exact::nexts_hold` meets its contract.
use borrow.Author.Rules.{rules}
use Rattle.axis.specs.Refusals.{segment_passes, segments_nexts}
use Rattle.words.specs.Segment.{segments_run, flat_segments}
use Rattle.words_segment_test.proofs.exact.nexts_hold.Goals as goal

pub returns : goal.returns
unfolding segments_nexts segment_passes flat_segments segments_run
returns c = c.every_segment.ensures
