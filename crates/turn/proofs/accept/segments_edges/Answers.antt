-- `turn::accept::segments_edges` meets its contract.
use borrow.Author.Rules.{rules}
use Rattle.axis.specs.Refusals.{segment_passes}
use Rattle.turn.specs.Indices.{segments_edges}
use Rattle.turn.proofs.accept.segments_edges.Goals as goal

pub returns : goal.returns
unfolding segments_edges segment_passes
returns c = c.every_segment.ensures
