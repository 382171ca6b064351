-- `shown_lines::place::spot_halves` meets its contract.
use mathlib.Core.Path.{sym, ap, subst, ◌∙◌}
use lib.ListN.{length}
use Rattle.path_trip.specs.Path.{points}
use Rattle.path_trip.specs.declared.tour.Spot.{Spot}
use Rattle.path_trip.specs.Trips.{Inside}
use Rattle.shown_lines.specs.declared.place.Halves.{Halves}
use Rattle.shown_lines.specs.Lines.{halves_at}
use Rattle.shown_lines.proofs.place.spot_halves.Goals as goal

pub point_place-requires : goal.point_place-requires
point_place-requires c = record {
  in_field = c.requires.in_field;
  i_in_bounds = (subst (Inside (length c.args.xs.now)) c.in-Point.is c.requires.inside.0, c.requires.inside.1);
}

pub place_between-requires : goal.place_between-requires
place_between-requires c = let p = subst (Inside (length c.args.xs.now)) c.in-Between.is c.requires.inside.0 in
    record {
      in_field = c.requires.in_field;
      i_in_bounds = (p.0, p.1, c.requires.inside.1);
    }

pub returns-in-Point : goal.returns-in-Point
returns-in-Point c =
    let place_of : Spot → Halves = λ s. halves_at (points c.args.xs.now c.args.ys.now c.args.marks.now) c.args.magnify s in
    (c.point_place.ensures.0 ∙ ap place_of (sym c.in-Point.is), c.point_place.ensures.1)

pub returns-in-Between : goal.returns-in-Between
returns-in-Between c =
    let place_of : Spot → Halves = λ s. halves_at (points c.args.xs.now c.args.ys.now c.args.marks.now) c.args.magnify s in
    (c.place_between.ensures.0 ∙ ap place_of (sym c.in-Between.is), c.place_between.ensures.1)
