-- `fit_points_words::row::fit_points` meets its contract.
use borrow.Author.Tests.{not-true, not-false}
use Rattle.edge_points.specs.EdgePoints.{Points}
use Rattle.edge_points.specs.Steps.{points}
use Rattle.fit_points_words.proofs.Steps.{movers-ready, movers-far, points-accepted, same-marks, points_near, moved_ready, points-go}
use borrow.Author.Rules.{rules}
use Rattle.fit_points_words.proofs.row.fit_points.Goals as goal

pub movers_hold-requires : goal.movers_hold-requires
movers_hold-requires c =
    let lent : Points = points c.args.currents.now c.args.touched.now in
    let a = c.args in
    let r = movers-ready a.by a.segments.now a.edges.now a.fonts.now a.originals.now a.weak.now a.ends.now lent c.requires in
    record { whole = r.0; whole_2 = r.1 }

pub returns-then-not-movers_hold : goal.returns-then-not-movers_hold
returns-then-not-movers_hold c =
    let lent : Points = points c.args.currents.now c.args.touched.now in
    let a = c.args in
    movers-far a.by a.segments.now a.edges.now a.fonts.now a.originals.now a.weak.now a.ends.now lent c.requires
    c.movers_hold.ensures (c.if-not-movers_hold.true)

pub move_all-requires : goal.move_all-requires
move_all-requires c =
    let lent : Points = points c.args.currents.now c.args.touched.now in
    let a = c.args in
    let t = c.if-not-movers_hold.false in
    record {
      accepted = points-accepted a.by a.segments.now a.edges.now a.fonts.now a.originals.now a.weak.now a.ends.now lent c.requires
          c.movers_hold.ensures t;
      touched_len = (
        same-marks a.by a.segments.now a.edges.now a.fonts.now a.originals.now a.weak.now a.ends.now lent c.requires,
        points_near a.by a.segments.now a.edges.now a.fonts.now a.originals.now a.weak.now a.ends.now lent c.requires
            c.movers_hold.ensures t,
      );
    }

pub then_strong-requires : goal.then_strong-requires
then_strong-requires c =
    let lent : Points = points c.args.currents.now c.args.touched.now in
    let a = c.args in
    moved_ready a.by a.segments.now a.edges.now a.fonts.now a.originals.now a.weak.now a.ends.now lent c.requires
    c.movers_hold.ensures (c.if-not-movers_hold.false)
    c.move_all.ensures c.currents-1.given c.touched-1.given

pub returns : goal.returns
returns c =
    let lent : Points = points c.args.currents.now c.args.touched.now in
    let a = c.args in
    points-go a.by a.segments.now a.edges.now a.fonts.now a.originals.now a.weak.now a.ends.now lent c.requires
    c.movers_hold.ensures (c.if-not-movers_hold.false)
    c.move_all.ensures c.then_strong.ensures
