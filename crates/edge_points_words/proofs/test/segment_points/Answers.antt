-- `edge_points_words::test::segment_points` meets its contract.
use borrow.Author.Rules.{rules}
use mathlib.Core.Path.{◌≡◌, sym, ◌∙◌}
use Rattle.axis.specs.Segment.{segment_at}
use Rattle.words.specs.Segment.{flat_segments}
use Rattle.edge_points_words.proofs.Tests.{points-free, points_on}
use Rattle.edge_points_words.proofs.test.segment_points.Goals as goal

pub edge_of-link-requires : goal.edge_of-link-requires
edge_of-link-requires c = c.requires

pub returns-in_default : goal.returns-in_default
returns-in_default c =
    let linked : c.edge_of-link.result ≡ (segment_at (flat_segments c.args.segments.now) c.args.i).edge =
    c.edge_of-link.ensures in
    points-free _ _ (sym linked ∙ c.in_default.is)

pub first_of-first-requires : goal.first_of-first-requires
first_of-first-requires c = c.requires

pub last_of-last-requires : goal.last_of-last-requires
last_of-last-requires c = c.requires

pub returns : goal.returns
returns c =
    let linked : c.edge_of-link.result ≡ (segment_at (flat_segments c.args.segments.now) c.args.i).edge =
    c.edge_of-link.ensures in
    points_on _ _ _ _ _ _ _ (sym linked ∙ c.in-Some.is) c.first_of-first.ensures c.last_of-last.ensures c.contour_of.ensures
    c.is_on.ensures
