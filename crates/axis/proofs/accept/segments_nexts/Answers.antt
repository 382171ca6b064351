-- `axis::accept::segments_nexts` meets its contract.
use borrow.Author.Rules.{rules}
use Rattle.axis.specs.Refusals.{segment_passes, segments_nexts}
use Rattle.axis.proofs.accept.segments_nexts.Goals as goal

pub returns : goal.returns
unfolding segments_nexts segment_passes
returns c = c.every_segment.ensures
