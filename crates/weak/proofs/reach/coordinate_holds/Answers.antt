-- `weak::reach::coordinate_holds` meets its contract.
use mathlib.Core.Path.{sym}
use native.Mathlib.Omega.{arith}
use lib.IntN.{pos, ◌-ℤ◌}
use mir.Syntax.{w32}
use mir.Val.{SFits}
use Rattle.signed.proofs.Signed.{is, fits, range, sub-law, signed}
use Rattle.weak.proofs.Refusals.{coordinate-low, coordinate-high}
use Rattle.weak.proofs.reach.coordinate_holds.Goals as goal

pub overflow_sub-most : goal.overflow_sub-most
overflow_sub-most c =
    let least_fits : SFits w32 (pos 0 -ℤ c.args.most) = fits (omega (arith, signed, sub-law (pos 0) c.args.most, range c.ranges.most, c.requires)) in
    rw (is c.ranges.most) least_fits

pub returns-then-x-most : goal.returns-then-x-most
returns-then-x-most c =
    let least_fits : SFits w32 (pos 0 -ℤ c.args.most) = fits (omega (arith, signed, sub-law (pos 0) c.args.most, range c.ranges.most, c.requires)) in
    sym (coordinate-low c.args.most c.args.x c.requires (rw (is c.ranges.x, is c.ranges.most, is least_fits) at c.if-x-most.true))

pub returns : goal.returns
returns c =
    let least_fits : SFits w32 (pos 0 -ℤ c.args.most) = fits (omega (arith, signed, sub-law (pos 0) c.args.most, range c.ranges.most, c.requires)) in
    rw (is c.ranges.x, is c.ranges.most) (coordinate-high c.args.most c.args.x c.requires
    (rw (is c.ranges.x, is c.ranges.most, is least_fits) at c.if-x-most.false))
