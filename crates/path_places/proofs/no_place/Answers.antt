-- `pixels::no_place` meets its contract.
use borrow.Author.Rules.{rules}
use Rattle.path_places.proofs.no_place.Goals as goal

pub returns : goal.returns
returns c = c.pixel_point.ensures
