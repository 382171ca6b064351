-- `pixels::pixel_point` meets its contract.
use mir.Syntax.{w32}
use mir.ValLaws.{to_z-of_z}
use borrow.Author.Rules.{rules}
use Rattle.path_places.proofs.pixel_point.Goals as goal

pub returns : goal.returns
returns c =
    let a = c in
    cc (c.to_pixels.ensures.is, c.to_pixels-2.ensures.is, to_z-of_z w32 a.args.x a.ranges.x, to_z-of_z w32 a.args.y a.ranges.y)
