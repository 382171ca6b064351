-- `axis::accept::segments_indices` meets its contract.
use borrow.Author.Rules.{rules}
use Rattle.axis.specs.Refusals.{segment_passes, segments_indices}
use Rattle.axis.proofs.accept.segments_indices.Goals as goal

pub returns : goal.returns
unfolding segments_indices segment_passes
returns c = c.every_segment.ensures
