-- `edge_points_words::test::mover_holds` meets its contract.
use borrow.Author.Rules.{rules}
use borrow.Author.Tests.{not-true, not-false}
use mathlib.Core.Path.{◌≡◌, sym, ap, ◌∙◌}
use mir.Syntax.{w32}
use Rattle.signed.proofs.Signed.{is, got}
use Rattle.axis.specs.Refusals.{within}
use Rattle.axis.specs.Segment.{segment_at}
use Rattle.weak_contour.specs.Limits.{most_coordinate}
use Rattle.words.specs.Segment.{flat_segments}
use Rattle.edge_points_words.proofs.Read.{edge-below}
use Rattle.edge_points_words.proofs.Visit.{read-moves}
use Rattle.edge_points_words.proofs.Tests.{mover-free, mover-still, mover-asked}
use Rattle.edge_points_words.proofs.test.mover_holds.Goals as goal

pub edge_of-link-requires : goal.edge_of-link-requires
edge_of-link-requires c = c.requires.whole

pub returns-in_default : goal.returns-in_default
returns-in_default c =
    let linked : c.edge_of-link.result ≡ (segment_at (flat_segments c.args.segments.now) c.args.i).edge =
    c.edge_of-link.ensures in
    mover-free _ _ _ (sym linked ∙ c.in_default.is)

pub read_edge-edge-requires : goal.read_edge-edge-requires
read_edge-edge-requires c =
    let linked : c.edge_of-link.result ≡ (segment_at (flat_segments c.args.segments.now) c.args.i).edge =
    c.edge_of-link.ensures in
    (c.requires.whole_2.0, edge-below c.args.segments.now c.args.i c.requires.whole.0 c.requires.whole.1 _ _ c.requires.whole_2.1 (sym linked ∙ c.in-Some.is))

pub returns-then-not-moves : goal.returns-then-not-moves
returns-then-not-moves c =
    let linked : c.edge_of-link.result ≡ (segment_at (flat_segments c.args.segments.now) c.args.i).edge =
    c.edge_of-link.ensures in
    let a = c.args in
    let e = sym linked ∙ c.in-Some.is in
    mover-still _ _ _ _ e (read-moves a.alone a.segments.now a.edges.now a.i c.read_edge-edge.result _ e c.read_edge-edge.ensures
    c.moves.ensures (c.if-not-moves.true))

pub returns : goal.returns
returns c =
    let linked : c.edge_of-link.result ≡ (segment_at (flat_segments c.args.segments.now) c.args.i).edge =
    c.edge_of-link.ensures in
    let a = c.args in
    let e = sym linked ∙ c.in-Some.is in
    mover-asked _ _ _ _ c.read_edge-edge.result _ e c.read_edge-edge.ensures
    (read-moves a.alone a.segments.now a.edges.now a.i c.read_edge-edge.result _ e c.read_edge-edge.ensures c.moves.ensures
    c.if-not-moves.false)
    (c.is_inside.ensures ∙ ap (within most_coordinate) (is (got w32 c.read_edge-edge.result.pos c.struct_told-1.given.1.1.0.1)))
