-- `fixed::width::distance` meets its contract.
use borrow.Author.Rules.{rules}
use native.Mathlib.Omega.{arith}
use mathlib.Core.Path.{ap, ◌∙◌}
use lib.IntN.{nat_abs, ◌-ℤ◌}
use Rattle.signed.proofs.Signed.{signed, fits, is, range, ◌also◌}
use Rattle.fixed.proofs.width.distance.Goals as goal

pub overflow_cast-standard : goal.overflow_cast-standard
overflow_cast-standard c = fits (omega (arith, signed, range c.ranges.standard))

pub overflow_cast-width : goal.overflow_cast-width
overflow_cast-width c = search rules

pub overflow_sub-standard : goal.overflow_sub-standard
overflow_sub-standard c = let k = overflow_cast-standard c also overflow_cast-width c in fits (omega (arith, signed, range c.ranges.standard))

pub magnitude-requires : goal.magnitude-requires
magnitude-requires c =
    let k = overflow_cast-standard c also overflow_cast-width c also overflow_sub-standard c in
    omega (arith, signed, range c.ranges.standard)

pub returns : goal.returns
returns c =
    let s = c.before in
    c.magnitude.ensures ∙ ap nat_abs (is (overflow_sub-standard s) ∙ λ i. (is (overflow_cast-standard s) ∙ is s.ranges.standard) i -ℤ is (overflow_cast-width s) i)
