-- `path_lay::lay::lay_contour` meets its contract.
use mathlib.Core.Bool.{true}
use mathlib.Core.List.{◌∷◌}
use mathlib.Core.Path.{◌∙◌}
use Prim.Native.Nat.{◌-◌}
use lib.ListN.{drop}
use Rattle.path_trip.specs.declared.step.PathStep.TheVariants.{Move}
use Rattle.path_trip.specs.Path.{points, Points, Round, round_of, walked, steps_of}
use Rattle.path_lay.specs.Laying.{Lists, lent}
use Rattle.path_lay.proofs.Lays.{Laying, laying, laying-as, laying-one, laying-room}
use Rattle.path_walk.proofs.Seeks.{steps-are}
use Rattle.path_lay.proofs.lay.lay_contour.Goals as goal

pub lay_step-n-requires : goal.lay_step-n-requires
lay_step-n-requires c =
    let outline : Points = points c.args.xs.now c.args.ys.now c.args.marks.now in
    let round : Round = round_of outline c.args.a (c.args.e - 1) in
    let at_first : Lists = lent c.args.kinds.now c.args.places.now c.args.count in
    let begun : let p = c.trip_of-trip.result.start in
    Laying at_first (steps_of outline round) at_first (Move p ∷ walked outline p true (drop 0 round.walk)) = laying-as _ _ (steps-are outline round _ c.trip_of-trip.ensures.0) (laying _ _ c.requires.room) in
    laying-room _ _ begun

pub lay_walk-requires : goal.lay_walk-requires
lay_walk-requires c =
    let outline : Points = points c.args.xs.now c.args.ys.now c.args.marks.now in
    let round : Round = round_of outline c.args.a (c.args.e - 1) in
    let at_first : Lists = lent c.args.kinds.now c.args.places.now c.args.count in
    let begun : let p = c.trip_of-trip.result.start in
    Laying at_first (steps_of outline round) at_first (Move p ∷ walked outline p true (drop 0 round.walk)) = laying-as _ _ (steps-are outline round _ c.trip_of-trip.ensures.0) (laying _ _ c.requires.room) in
    let moved : Laying at_first (steps_of outline round) (lent c.lay_step-n.new.kinds c.lay_step-n.new.places c.lay_step-n.result)
    (walked outline c.trip_of-trip.result.start true (drop 0 round.walk)) = laying-one _ _ _ c.lay_step-n.ensures begun in
    record {
      admitted = c.requires.admitted;
      within = c.requires.within;
      walk = c.trip_of-trip.ensures.1;
      room = moved.room;
    }

pub returns : goal.returns
returns c =
    let outline : Points = points c.args.xs.now c.args.ys.now c.args.marks.now in
    let round : Round = round_of outline c.args.a (c.args.e - 1) in
    let at_first : Lists = lent c.args.kinds.now c.args.places.now c.args.count in
    let begun : let p = c.trip_of-trip.result.start in
    Laying at_first (steps_of outline round) at_first (Move p ∷ walked outline p true (drop 0 round.walk)) = laying-as _ _ (steps-are outline round _ c.trip_of-trip.ensures.0) (laying _ _ c.requires.room) in
    let moved : Laying at_first (steps_of outline round) (lent c.lay_step-n.new.kinds c.lay_step-n.new.places c.lay_step-n.result)
    (walked outline c.trip_of-trip.result.start true (drop 0 round.walk)) = laying-one _ _ _ c.lay_step-n.ensures begun in
    c.lay_walk.ensures ∙ moved.same
