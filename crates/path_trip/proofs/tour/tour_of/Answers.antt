-- `path_trip::tour::tour_of` meets its contract.
use Rattle.path_trip.specs.Path.{points}
use Rattle.path_trip.proofs.Walks.{tour-some, tour-none}
use Rattle.path_trip.proofs.tour.tour_of.Goals as goal

pub returns-then-f-e : goal.returns-then-f-e
returns-then-f-e c = tour-some (points c.args.xs.now c.args.ys.now c.args.marks.now) c.args.a c.args.e c.first_on-f.result c.requires.within.some c.first_on-f.ensures c.if-f-e.true

pub returns : goal.returns
returns c = tour-none (points c.args.xs.now c.args.ys.now c.args.marks.now) c.args.a c.args.e c.first_on-f.result c.requires.within.some c.first_on-f.ensures c.if-f-e.false
