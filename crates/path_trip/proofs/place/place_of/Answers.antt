-- `path_trip::place::place_of` meets its contract.
use Rattle.path_trip.specs.Path.{points, Points}
use Rattle.path_trip.proofs.Coordinates.{x-small, y-small, place_is}
use Rattle.path_trip.proofs.place.place_of.Goals as goal

pub pixel_point-requires : goal.pixel_point-requires
pixel_point-requires c =
    let outline : Points = points c.args.xs.now c.args.ys.now c.args.marks.now in
    (x-small outline c.requires.admitted c.args.i, y-small outline c.requires.admitted c.args.i)

pub returns : goal.returns
returns c = place_is (points c.args.xs.now c.args.ys.now c.args.marks.now) c.requires.admitted c.args.i _ c.pixel_point.ensures
