-- `path_trip::trip::trip_of` meets its contract.
use mathlib.Core.Path.{sym, ap, subst, ◌∙◌}
use Prim.Native.Nat.{◌-◌}
use Rattle.path_trip.specs.Path.{points, Points, Round}
use Rattle.path_trip.specs.Legs.{spot_place}
use Rattle.path_trip.specs.Trips.{Walk}
use Rattle.path_trip.proofs.Pictures.{round-of}
use Rattle.path_trip.proofs.Walks.{inside-more}
use Rattle.path_trip.proofs.trip.trip_of.Goals as goal

pub spot_place-start-requires : goal.spot_place-start-requires
spot_place-start-requires c = record {
  admitted = c.requires.admitted;
  inside = inside-more _ _ c.requires.within.inside c.tour_of-tour.result.start c.tour_of-tour.ensures.1;
}

pub returns : goal.returns
returns c =
    let outline : Points = points c.args.xs.now c.args.ys.now c.args.marks.now in
    let t = c.tour_of-tour in
    let r = round-of outline c.args.a (c.args.e - 1) in (
      c.spot_place-start.ensures ∙ ap (spot_place outline) t.ensures.0 ∙ ap (λ (x : Round). x.start) (sym r),
      subst (λ (x : Round). Walk x.walk c.args.a c.args.e t.result.from t.result.count) (sym r) t.ensures.2,
    )
