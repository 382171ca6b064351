-- `weak_drag::refit::is_still` meets its contract.
use mir.Syntax.{w32}
use Rattle.signed.proofs.Reading.{eq-same}
use Rattle.weak_drag.proofs.refit.is_still.Goals as goal

pub returns : goal.returns
returns c = eq-same w32 c.args.current c.args.original c.ranges.current.sfits c.ranges.original.sfits
