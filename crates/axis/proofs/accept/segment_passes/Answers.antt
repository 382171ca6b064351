-- `axis::accept::segment_passes` meets its contract.
use borrow.Author.Rules.{rules}
use Rattle.axis.specs.Refusals.{segment_passes}
use Rattle.axis.proofs.accept.segment_passes.Goals as goal

pub returns-in-Indices : goal.returns-in-Indices
unfolding segment_passes
returns-in-Indices c = rw c.in-Indices.is c.segment_indices.ensures

pub returns-in-Next : goal.returns-in-Next
unfolding segment_passes
returns-in-Next c = rw c.in-Next.is c.segment_next.ensures

pub returns-in-Edge : goal.returns-in-Edge
unfolding segment_passes
returns-in-Edge c = rw c.in-Edge.is c.segment_edge.ensures

pub returns-in-Numbers : goal.returns-in-Numbers
unfolding segment_passes
returns-in-Numbers c = rw c.in-Numbers.is c.segment_numbers.ensures
