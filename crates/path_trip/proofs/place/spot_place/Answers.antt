-- `path_trip::place::spot_place` meets its contract.
use mathlib.Core.Path.{subst}
use lib.ListN.{length}
use Rattle.path_trip.specs.Trips.{Inside}
use Rattle.path_trip.proofs.place.spot_place.Goals as goal

pub place_of-requires : goal.place_of-requires
place_of-requires c = record {
  admitted = c.requires.admitted;
  i_in_bounds = subst (Inside (length c.args.xs.now)) c.in-Point.is c.requires.inside;
}

pub middle_of-requires : goal.middle_of-requires
middle_of-requires c = record {
  admitted = c.requires.admitted;
  i_in_bounds = subst (Inside (length c.args.xs.now)) c.in-Between.is c.requires.inside;
}

pub returns-in-Point : goal.returns-in-Point
returns-in-Point c = rw c.in-Point.is c.place_of.ensures

pub returns-in-Between : goal.returns-in-Between
returns-in-Between c = rw c.in-Between.is c.middle_of.ensures
