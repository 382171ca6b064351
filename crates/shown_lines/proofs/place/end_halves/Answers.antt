-- `shown_lines::place::end_halves` meets its contract.
use mathlib.Core.Path.{sym, ap, subst, ◌∙◌}
use lib.ListN.{length}
use Rattle.path_trip.specs.Path.{points}
use Rattle.path_walk.specs.Steps.{EndInside}
use Rattle.path_walk.specs.declared.walk.End.{End}
use Rattle.shown_lines.specs.Lines.{end_at}
use Rattle.shown_lines.specs.declared.place.Halves.{Halves}
use Rattle.shown_lines.proofs.place.end_halves.Goals as goal

pub point_place-requires : goal.point_place-requires
point_place-requires c = record {
  in_field = c.requires.in_field;
  i_in_bounds = (subst (EndInside (length c.args.xs.now)) c.in-Point.is c.requires.end_inside.0, c.requires.end_inside.1);
}

pub place_between-requires : goal.place_between-requires
place_between-requires c = let p = subst (EndInside (length c.args.xs.now)) c.in-Between.is c.requires.end_inside.0 in
    record {
      in_field = c.requires.in_field;
      i_in_bounds = (p.0, p.1, c.requires.end_inside.1);
    }

pub returns-in-Start : goal.returns-in-Start
returns-in-Start c =
    let place_of : End → Halves = λ x. end_at (points c.args.xs.now c.args.ys.now c.args.marks.now) c.args.magnify c.args.start x in
    (ap place_of (sym c.in-Start.is), c.requires.end_inside.2)

pub returns-in-Point : goal.returns-in-Point
returns-in-Point c =
    let place_of : End → Halves = λ x. end_at (points c.args.xs.now c.args.ys.now c.args.marks.now) c.args.magnify c.args.start x in
    (c.point_place.ensures.0 ∙ ap place_of (sym c.in-Point.is), c.point_place.ensures.1)

pub returns-in-Between : goal.returns-in-Between
returns-in-Between c =
    let place_of : End → Halves = λ x. end_at (points c.args.xs.now c.args.ys.now c.args.marks.now) c.args.magnify c.args.start x in
    (c.place_between.ensures.0 ∙ ap place_of (sym c.in-Between.is), c.place_between.ensures.1)
