-- `fixed::point::size` meets its contract: every magnitude fits 32 unsigned bits.
use native.Mathlib.Omega.{arith}
use mathlib.Core.Path.{◌≡◌, ap, ◌∙◌}
use lib.IntN.{nat_abs}
use Rattle.signed.proofs.Signed.{signed, fits, is, range, abs-of, between-sfits}
use Rattle.fixed.proofs.point.size.Goals as goal
use Rattle.fixed.proofs.point.size.Goals.{After-magnitude}

pub overflow_cast-x : goal.overflow_cast-x
overflow_cast-x c = fits (omega (arith, signed, range c.ranges.x))

pub magnitude-requires : goal.magnitude-requires
magnitude-requires c = let k = overflow_cast-x c in omega (arith, signed, range c.ranges.x)

magnitude-is : (c : After-magnitude) → c.magnitude.result ≡ nat_abs c.args.x
magnitude-is c = c.magnitude.ensures ∙ ap nat_abs (is (overflow_cast-x c.before) ∙ is c.ranges.x)

pub overflow_cast-result : goal.overflow_cast-result
overflow_cast-result c = omega (arith, magnitude-is c, abs-of (between-sfits c.ranges.x))

pub returns : goal.returns
returns c = magnitude-is c
