-- `path_trip::place::middle_of` meets its contract.
use Rattle.path_trip.specs.Path.{points, Points}
use Rattle.path_trip.proofs.Coordinates.{x-small, y-small, middle-is}
use Rattle.path_trip.proofs.place.middle_of.Goals as goal

pub halfway_point-requires : goal.halfway_point-requires
halfway_point-requires c =
    let outline : Points = points c.args.xs.now c.args.ys.now c.args.marks.now in (
      x-small outline c.requires.admitted c.args.i,
      y-small outline c.requires.admitted c.args.i,
      x-small outline c.requires.admitted c.args.j,
      y-small outline
          c.requires.admitted c.args.j,
    )

pub returns : goal.returns
returns c = middle-is (points c.args.xs.now c.args.ys.now c.args.marks.now) c.requires.admitted c.args.i c.args.j _ c.halfway_point.ensures
