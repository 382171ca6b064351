-- `edge_points_words::pass::move_segment` meets its contract.
use borrow.Author.Rules.{rules}
use borrow.Author.Tests.{not-true, not-false}
use native.Mathlib.Omega.{arith}
use mathlib.Core.Path.{◌≡◌, refl, sym, ◌∙◌}
use Prim.Native.Nat.{◌<◌}
use Rattle.axis.specs.Segment.{segment_at}
use Rattle.words.specs.Segment.{segments_in, flat_segments}
use Rattle.words_segment.specs.Whole.{Whole}
use Rattle.edge_points_words.proofs.Read.{named, is-mover}
use Rattle.edge_points_words.proofs.Visit.{visit-none, visit-still, read-moves, read-mover, segment-ready, segment-moved, reach-most}
use Rattle.edge_points_words.proofs.pass.move_segment.Goals as goal

pub edge_of-link-requires : goal.edge_of-link-requires
edge_of-link-requires c = let p = c.requires.accepted in (p.0.segments, p.1)

pub returns-in_default : goal.returns-in_default
returns-in_default c =
    let linked : c.edge_of-link.result ≡ (segment_at (flat_segments c.args.segments.now) c.args.i).edge =
    c.edge_of-link.ensures in
    visit-none _ _ _ _ _ _ _ (sym linked ∙ c.in_default.is)

pub read_edge-edge-requires : goal.read_edge-edge-requires
read_edge-edge-requires c =
    let linked : c.edge_of-link.result ≡ (segment_at (flat_segments c.args.segments.now) c.args.i).edge =
    c.edge_of-link.ensures in
    (c.requires.accepted.0.edges, named _ _ _ _ _ c.requires.accepted.0 _ c.requires.accepted.1 _ (sym linked ∙ c.in-Some.is))

pub returns-then-not-moves : goal.returns-then-not-moves
returns-then-not-moves c =
    let linked : c.edge_of-link.result ≡ (segment_at (flat_segments c.args.segments.now) c.args.i).edge =
    c.edge_of-link.ensures in
    let a = c.args in
    let e = sym linked ∙ c.in-Some.is in
    visit-still _ _ _ _ _ _ _ _ e (read-moves a.alone a.segments.now a.edges.now a.i c.read_edge-edge.result _ e c.read_edge-edge.ensures
    c.moves.ensures (c.if-not-moves.true))

pub first_of-first-requires : goal.first_of-first-requires
first_of-first-requires c =
    let segment : Whole c.args.segments.now × (c.args.i < segments_in c.args.segments.now) =
    let p = c.requires.accepted in (p.0.segments, p.1) in
    segment

pub last_of-last-requires : goal.last_of-last-requires
last_of-last-requires c =
    let segment : Whole c.args.segments.now × (c.args.i < segments_in c.args.segments.now) =
    let p = c.requires.accepted in (p.0.segments, p.1) in
    segment

pub move_walk-requires : goal.move_walk-requires
move_walk-requires c =
    let linked : c.edge_of-link.result ≡ (segment_at (flat_segments c.args.segments.now) c.args.i).edge =
    c.edge_of-link.ensures in
    let first_read : c.first_of-first.result ≡ (segment_at (flat_segments c.args.segments.now) c.args.i).first =
    c.first_of-first.ensures in
    let last-read : c.last_of-last.result ≡ (segment_at (flat_segments c.args.segments.now) c.args.i).last =
    c.last_of-last.ensures in
    let a = c.requires.accepted.0 in
    let e = sym linked ∙ c.in-Some.is in
    let moving = read-moves c.args.alone c.args.segments.now c.args.edges.now c.args.i c.read_edge-edge.result _ e c.read_edge-edge.ensures
    c.moves.ensures c.if-not-moves.false in
    record {
      around = (segment-ready _ _ _ _ _ a _ c.requires.accepted.1 _ e _ _ first_read last-read _ refl, c.requires.touched_len.0);
      mover = (
        read-mover _ _ c.read_edge-edge.ensures (is-mover _ _ _ _ _ a _ c.requires.accepted.1 _ e moving),
        reach-most c.args.i c.args.currents.now (omega (arith, c.requires.accepted.1, a.segments.few)) c.requires.touched_len.1,
      );
    }

pub returns : goal.returns
returns c =
    let linked : c.edge_of-link.result ≡ (segment_at (flat_segments c.args.segments.now) c.args.i).edge =
    c.edge_of-link.ensures in
    let first_read : c.first_of-first.result ≡ (segment_at (flat_segments c.args.segments.now) c.args.i).first =
    c.first_of-first.ensures in
    let last-read : c.last_of-last.result ≡ (segment_at (flat_segments c.args.segments.now) c.args.i).last =
    c.last_of-last.ensures in
    let e = sym linked ∙ c.in-Some.is in
    let moving = read-moves c.args.alone c.args.segments.now c.args.edges.now c.args.i c.read_edge-edge.result _ e c.read_edge-edge.ensures
    c.moves.ensures c.if-not-moves.false in
    segment-moved _ _ _ _ _ c.requires.accepted.0 _ c.requires.accepted.1 _ e _ _ first_read last-read _ refl _ _ _ _ c.read_edge-edge.ensures moving
    c.move_walk.ensures
