-- `path_lay::lay::lay_walk` meets its contract. The invariant: what is left of the walk, laid behind what is laid, gives the whole.
use mathlib.Core.Bool.{true}
use mathlib.Core.List.{List, ◌∷◌, []}
use Prim.Native.Nat.{ℕ, ◌-◌}
use native.Mathlib.Omega.{arith}
use lib.ListN.{drop}
use Rattle.path_trip.specs.declared.step.PathStep.{PathStep}
use Rattle.path_trip.specs.declared.step.PathStep.TheVariants.{Close}
use Rattle.path_trip.specs.Path.{points, Points, round_of, walked}
use Rattle.path_lay.specs.Laying.{Lists, lent, Room}
use Rattle.path_lay.proofs.Lays.{Laying, laying, laying-as, laying-one, laying-room, laying-done, room-less}
use Rattle.path_lay.proofs.Turns.{some_left}
use Rattle.path_walk.proofs.Seeks.{walk-closed}
use Rattle.path_lay.proofs.lay.lay_walk.Goals as goal

pub loop-j-init : goal.loop-j-init
loop-j-init c = laying _ _ c.requires.room

pub lay_point-j-requires : goal.lay_point-j-requires
lay_point-j-requires c =
    let outline : Points = points c.args.xs.now c.args.ys.now c.args.marks.now in
    let walk : List ℕ = (round_of outline c.args.a (c.args.e - 1)).walk in
    let room : Room (lent c.loop-j.kinds c.loop-j.places c.loop-j.n) 1 = room-less _ _ 1 (some_left outline c.args.trip.start (drop c.loop-j.j walk)) c.loop-j.invariant.room in
    record {
      admitted = c.requires.admitted;
      within = c.requires.within;
      walk = c.requires.walk;
      j_lt_count = (c.loop-j-test.true, room);
    }

pub overflow_add-n : goal.overflow_add-n
overflow_add-n c =
    let outline : Points = points c.args.xs.now c.args.ys.now c.args.marks.now in
    let room : Room (lent c.loop-j.kinds c.loop-j.places c.loop-j.n) 1 = room-less _ _ 1 (some_left outline c.args.trip.start (drop c.loop-j.j ((round_of outline c.args.a (c.args.e - 1)).walk))) c.loop-j.invariant.room in
    omega (arith, room.kinds_room, c.loop-j.invariant.kinds_length)

pub loop-j-smaller : goal.loop-j-smaller
loop-j-smaller c = let p = c.lay_point-j.ensures in omega (arith, p.further)

pub loop-j-preserved : goal.loop-j-preserved
loop-j-preserved c = let p = c.lay_point-j.ensures in
    laying-one _ p.step _ p.wrote (laying-as _ _ p.left c.loop-j.invariant)

pub lay_step-requires : goal.lay_step-requires
lay_step-requires c =
    let outline : Points = points c.args.xs.now c.args.ys.now c.args.marks.now in
    let walk : List ℕ = (round_of outline c.args.a (c.args.e - 1)).walk in
    let closing : Laying (lent c.args.kinds.now c.args.places.now c.args.count) (walked outline c.args.trip.start true (drop 0 walk)) (lent c.loop-j.kinds c.loop-j.places c.loop-j.n) (Close ∷ []) = laying-as _ _ (walk-closed outline c.args.trip.start walk c.args.a c.args.e c.args.trip.from c.args.trip.count
    c.requires.walk
    c.loop-j.j c.loop-j-test.false true) c.loop-j.invariant in
    laying-room _ _ closing

pub shape_of-kinds : goal.shape_of-kinds
shape_of-kinds c =
    let at_first : Lists = lent c.args.kinds.now c.args.places.now c.args.count in
    let outline : Points = points c.args.xs.now c.args.ys.now c.args.marks.now in
    let walk : List ℕ = (round_of outline c.args.a (c.args.e - 1)).walk in
    let whole : List PathStep = walked outline c.args.trip.start true (drop 0 walk) in
    let closing : Laying at_first whole (lent c.loop-j.kinds c.loop-j.places c.loop-j.n) (Close ∷ []) = laying-as _ _ (walk-closed outline c.args.trip.start walk c.args.a c.args.e c.args.trip.from c.args.trip.count
    c.requires.walk
    c.loop-j.j c.loop-j-test.false true) c.loop-j.invariant in
    let closed : Laying at_first whole (lent c.lay_step.new.kinds c.lay_step.new.places c.lay_step.result) [] = laying-one _ Close [] c.lay_step.ensures closing in
    closed.kinds_length

pub shape_of-places : goal.shape_of-places
shape_of-places c =
    let at_first : Lists = lent c.args.kinds.now c.args.places.now c.args.count in
    let outline : Points = points c.args.xs.now c.args.ys.now c.args.marks.now in
    let walk : List ℕ = (round_of outline c.args.a (c.args.e - 1)).walk in
    let whole : List PathStep = walked outline c.args.trip.start true (drop 0 walk) in
    let closing : Laying at_first whole (lent c.loop-j.kinds c.loop-j.places c.loop-j.n) (Close ∷ []) = laying-as _ _ (walk-closed outline c.args.trip.start walk c.args.a c.args.e c.args.trip.from c.args.trip.count
    c.requires.walk
    c.loop-j.j c.loop-j-test.false true) c.loop-j.invariant in
    let closed : Laying at_first whole (lent c.lay_step.new.kinds c.lay_step.new.places c.lay_step.result) [] = laying-one _ Close [] c.lay_step.ensures closing in
    closed.places_length

pub returns : goal.returns
returns c =
    let at_first : Lists = lent c.args.kinds.now c.args.places.now c.args.count in
    let outline : Points = points c.args.xs.now c.args.ys.now c.args.marks.now in
    let walk : List ℕ = (round_of outline c.args.a (c.args.e - 1)).walk in
    let whole : List PathStep = walked outline c.args.trip.start true (drop 0 walk) in
    let closing : Laying at_first whole (lent c.loop-j.kinds c.loop-j.places c.loop-j.n) (Close ∷ []) = laying-as _ _ (walk-closed outline c.args.trip.start walk c.args.a c.args.e c.args.trip.from c.args.trip.count
    c.requires.walk
    c.loop-j.j c.loop-j-test.false true) c.loop-j.invariant in
    let closed : Laying at_first whole (lent c.lay_step.new.kinds c.lay_step.new.places c.lay_step.result) [] = laying-one _ Close [] c.lay_step.ensures closing in
    laying-done closed
