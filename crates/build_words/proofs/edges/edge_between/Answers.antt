-- `build_words::edges::edge_between` meets its contract.
use mathlib.Core.Path.{ap, ◌∙◌}
use lib.IntN.{ℤ}
use borrow.Author.Rules.{rules}
use Rattle.signed.proofs.By.{by₂}
use Rattle.signed.proofs.Signed.{is}
use Rattle.axis.specs.declared.edge.Edge.{Edge}
use Rattle.axis.specs.declared.segment.Segment.{Segment}
use Rattle.axis.specs.Edge.{with_last}
use Rattle.build_join.specs.Joining.{new_edge}
use Rattle.build_words.proofs.edges.edge_between.Goals as goal

pub new_edge-requires : goal.new_edge-requires
new_edge-requires c = let s = c in rw (c.read_segment.ensures, is s.ranges.scale) s.requires.0

pub returns : goal.returns
returns c =
    let n = c in
    let g = n in
    let s = g in
    c.with_last.ensures
    ∙ ap (λ (e : Edge). with_last e s.args.last)
    (by₂ (λ (x : Segment) (z : ℤ). new_edge x z s.args.first) n.new_edge.ensures g.read_segment.ensures (is s.ranges.scale))
