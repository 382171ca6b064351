-- `path_lay::lay::lay_path` meets its contract.
use mathlib.Core.Bool.{true}
use mathlib.Core.List.{◌++◌}
use Prim.Native.Nat.{◌+◌, ◌-◌}
use native.Mathlib.Omega.{arith}
use lib.ListN.{length, drop, length-append}
use Rattle.path_trip.specs.Path.{points, Points, round_of, steps_of, path, path_from}
use Rattle.path_lay.specs.Laying.{lent}
use Rattle.weak.proofs.Refusals.{end-at, EndAt}
use Rattle.path_lay.proofs.Lays.{Laying, laying, laying-as, laying-more, laying-done, room-less}
use Rattle.path_walk.proofs.Seeks.{path-start, path-turn, path-end}
use Rattle.path_lay.proofs.lay.lay_path.Goals as goal

pub loop-end-init : goal.loop-end-init
loop-end-init c = (c.requires.ends_value, laying-as _ _ (path-start (points c.args.xs.now c.args.ys.now c.args.marks.now) c.args.ends.now) (laying _ _ c.requires.room))

pub lay_contour-n-requires : goal.lay_contour-n-requires
lay_contour-n-requires c =
    let outline : Points = points c.args.xs.now c.args.ys.now c.args.marks.now in
    let end : EndAt c.loop-end.a (length c.args.xs.now) c.args.ends.now c.loop-end.end-index = end-at _ _ _ _ c.loop-end-test.true c.loop-end.invariant.0 in
    let turn : Laying (lent c.args.kinds.now c.args.places.now 0) (path outline c.args.ends.now) (lent c.loop-end.kinds c.loop-end.places c.loop-end.n)
    (steps_of outline (round_of outline c.loop-end.a (c.from-e.result + 1 - 1))
    ++ path_from outline (c.from-e.result + 1) (drop (c.loop-end.end-index + 1) c.args.ends.now)) = laying-as _ _ (path-turn outline c.loop-end.a c.args.ends.now c.loop-end.end-index c.from-e.result c.loop-end-test.true
    c.from-e.ensures) c.loop-end.invariant.1 in
    record {
      admitted = c.requires.admitted;
      within = record { some = omega (arith, end.low, c.from-e.ensures); inside = omega (arith, end.high, c.from-e.ensures) };
      room = room-less _ _ _ (omega (
        arith,
        length-append (steps_of outline (round_of outline c.loop-end.a (c.from-e.result + 1 - 1)))
            (path_from outline (c.from-e.result + 1) (drop (c.loop-end.end-index + 1) c.args.ends.now)),
      )) turn.room;
    }

pub loop-end-preserved : goal.loop-end-preserved
loop-end-preserved c =
    let end : EndAt c.loop-end.a (length c.args.xs.now) c.args.ends.now c.loop-end.end-index = end-at _ _ _ _ c.loop-end-test.true c.loop-end.invariant.0 in
    let outline : Points = points c.args.xs.now c.args.ys.now c.args.marks.now in
    let turn : Laying (lent c.args.kinds.now c.args.places.now 0) (path outline c.args.ends.now) (lent c.loop-end.kinds c.loop-end.places c.loop-end.n)
    (steps_of outline (round_of outline c.loop-end.a (c.from-e.result + 1 - 1))
    ++ path_from outline (c.from-e.result + 1) (drop (c.loop-end.end-index + 1) c.args.ends.now)) = laying-as _ _ (path-turn outline c.loop-end.a c.args.ends.now c.loop-end.end-index c.from-e.result c.loop-end-test.true
    c.from-e.ensures) c.loop-end.invariant.1 in
    (rw c.from-e.ensures end.rest, laying-more _ _ _ c.lay_contour-n.ensures turn)

pub returns : goal.returns
returns c = laying-done (laying-as _ _ (path-end (points c.args.xs.now c.args.ys.now c.args.marks.now) c.loop-end.a c.args.ends.now c.loop-end.end-index c.loop-end-test.false) c.loop-end.invariant.1)
