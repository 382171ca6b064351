-- `axis::accept::edge_passes` meets its contract.
use mathlib.Core.Path.{ap}
use mathlib.Core.Bool.{not}
use borrow.Author.Rules.{rules}
use Rattle.axis.specs.Refusals.{edge_passes}
use Rattle.axis.proofs.accept.edge_passes.Goals as goal

pub returns-in-Indices : goal.returns-in-Indices
unfolding edge_passes
returns-in-Indices c = rw c.in-Indices.is c.edge_indices.ensures

pub returns-in-Segments : goal.returns-in-Segments
unfolding edge_passes
returns-in-Segments c = rw c.in-Segments.is c.edge_segments.ensures

pub returns-in-Numbers : goal.returns-in-Numbers
unfolding edge_passes
returns-in-Numbers c = rw c.in-Numbers.is c.edge_numbers.ensures

pub returns-in-Bare : goal.returns-in-Bare
unfolding edge_passes
returns-in-Bare c = rw c.in-Bare.is (ap not c.has_blue.ensures)
