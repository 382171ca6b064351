-- `words_segment_test::exact::indices_hold` meets its contract.
use borrow.Author.Rules.{rules}
use Rattle.axis.specs.Refusals.{segment_passes, segments_indices}
use Rattle.words.specs.Segment.{segments_run, flat_segments}
use Rattle.words_segment_test.proofs.exact.indices_hold.Goals as goal

pub returns : goal.returns
unfolding segments_indices segment_passes flat_segments segments_run
returns c = c.every_segment.ensures
