-- `jobs_points::float::float_bits` is safe: what is equal to itself is a number.
use borrow.Author.Rules.{rules}
use mathlib.Core.Path.{◌≡◌, subst}
use mathlib.Core.Bool.{false, not}
use lib.Dec.{T}
use lib.Ieee.{Float, nan, inf, fin, is_nan, ne}
use Rattle.jobs_points.proofs.float.float_bits.Goals as goal

-- a float that is equal to itself is a number
number : (x : Float) → ne x x ≡ false → T (not (is_nan x))
unfolding ne is_nan
number nan e = subst T e tt
number (inf s) e = tt
number (fin s m k) e = tt

pub float_to_bits-result : goal.float_to_bits-result
float_to_bits-result c = number c.args.x c.if-x.false
