-- `pixels::to_pixels` meets its contract: the integer is small enough that neither the cast nor the quotient rounds.
use native.Mathlib.Omega.{arith}
use lib.Dec.{lit≤}
use lib.Ieee.{of_bits}
use mir.Syntax.{w32}
use mir.ValLaws.{to_z-of_z}
use Rattle.path_places.proofs.Exact.{div-exact, div_value, in-float}
use Rattle.path_places.proofs.to_pixels.Goals as goal

pub int_to_float-result : goal.int_to_float-result
int_to_float-result c = rw (to_z-of_z w32 c.args.x c.ranges.x) (in-float c.args.x (omega arith))

pub returns : goal.returns
unfolding of_bits
returns c =
    let x = c.args.x in
    rw (to_z-of_z w32 x c.ranges.x) record { is = div-exact x 6 (omega arith) (lit≤ tt); exact = div_value x 6 (omega arith) (lit≤ tt) }
