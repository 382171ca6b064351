-- `axis::accept::segments_numbers` meets its contract.
use borrow.Author.Rules.{rules}
use Rattle.axis.specs.Refusals.{segment_passes, segments_numbers}
use Rattle.axis.proofs.accept.segments_numbers.Goals as goal

pub returns : goal.returns
unfolding segments_numbers segment_passes
returns c = c.every_segment.ensures
