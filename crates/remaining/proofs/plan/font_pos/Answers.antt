-- `remaining::plan::font_pos` meets its contract.
use native.Mathlib.Omega.{arith}
use Rattle.signed.proofs.Reading.{cast-16, back-16, short}
use Rattle.remaining.proofs.plan.font_pos.Goals as goal

pub overflow_cast-result : goal.overflow_cast-result
overflow_cast-result c = cast-16 c.args.edge.fpos c.struct_told-1.given.0.1

pub returns : goal.returns
returns c =
    let z = c.args.edge.fpos in
    let read = back-16 z c.struct_told-1.given.0.1 in
    (read, rw read (omega (arith, short z c.struct_told-1.given.0.1)))
