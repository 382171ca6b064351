-- `build_join::rules::distance` meets its contract: differences of 32-bit numbers have 64 bits.
use native.Mathlib.Omega.{arith}
use Rattle.signed.proofs.Signed.{signed, fits, is, range, ◌also◌}
use Rattle.build_join.proofs.rules.distance.Goals as goal

pub overflow_cast-a : goal.overflow_cast-a
overflow_cast-a c = fits (omega (arith, signed, range c.ranges.a))

pub overflow_cast-b : goal.overflow_cast-b
overflow_cast-b c = fits (omega (arith, signed, range c.ranges.b))

pub overflow_sub-a : goal.overflow_sub-a
overflow_sub-a c = let k = overflow_cast-a c also overflow_cast-b c in fits (omega (arith, signed, range c.ranges.a, range c.ranges.b))

pub magnitude-requires : goal.magnitude-requires
magnitude-requires c =
    let k = overflow_cast-a c also overflow_cast-b c also overflow_sub-a c in
    omega (arith, signed, range c.ranges.a, range c.ranges.b)

pub returns : goal.returns
returns c =
    let s = c.before in
    cc (c.magnitude.ensures, is (overflow_sub-a s), is (overflow_cast-a s), is (overflow_cast-b s), is s.ranges.a, is s.ranges.b)
