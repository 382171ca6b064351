-- `weak_contour::steep::is_steep` meets its contract: 32,768 spans are held against the rise.
use native.Mathlib.Omega.{arith}
use mathlib.Core.Path.{◌≡◌, ap, ◌∙◌}
use Prim.Native.Nat.{◌*◌, ◌<◌}
use mir.Syntax.{w32, w64}
use mir.Val.{SFits, to_z, of_z}
use lib.Dec.{leb}
use lib.IntN.{nat_abs}
use Rattle.signed.proofs.Signed.{signed, fits, is, range, nat_abs-is, one-zero}
use Rattle.weak_contour.proofs.Steepness.{steep-test}
use Rattle.weak_contour.proofs.steep.is_steep.Goals as goal

pub overflow_cast-span : goal.overflow_cast-span
overflow_cast-span c = fits (omega (arith, signed, range c.ranges.span))

pub magnitude-run-requires : goal.magnitude-run-requires
magnitude-run-requires c = let k = overflow_cast-span c in omega (arith, signed, range c.ranges.span)

pub overflow_mul-run : goal.overflow_mul-run
overflow_mul-run c =
    let cast-span : SFits w64 (to_z w32 (of_z w32 c.args.span)) = fits (omega (arith, signed, range c.ranges.span)) in
    let span-is : c.magnitude-run.result ≡ nat_abs c.args.span = c.magnitude-run.ensures ∙ ap nat_abs (is cast-span ∙ is c.ranges.span) in
    omega (arith, span-is, nat_abs-is c.args.span, one-zero c.args.span, c.requires.0)

pub overflow_cast-rise : goal.overflow_cast-rise
overflow_cast-rise c = fits (omega (arith, signed, range c.ranges.rise))

pub magnitude-requires : goal.magnitude-requires
magnitude-requires c = let k = overflow_cast-rise c in omega (arith, signed, range c.ranges.rise)

pub returns : goal.returns
returns c =
    let cast-span : SFits w64 (to_z w32 (of_z w32 c.args.span)) = fits (omega (arith, signed, range c.ranges.span)) in
    let cast-rise : SFits w64 (to_z w32 (of_z w32 c.args.rise)) = fits (omega (arith, signed, range c.ranges.rise)) in
    let span-is : c.magnitude-run.result ≡ nat_abs c.args.span = c.magnitude-run.ensures ∙ ap nat_abs (is cast-span ∙ is c.ranges.span) in
    let rise-is : c.magnitude.result ≡ nat_abs c.args.rise = c.magnitude.ensures ∙ ap nat_abs (is cast-rise ∙ is c.ranges.rise) in
    let some : 0 < nat_abs c.args.span = c.requires.1 in
    (λ i. leb (span-is i * 32768) (rise-is i))
    ∙ steep-test c.args.rise c.args.span (omega (arith, c.requires.0, some, nat_abs-is c.args.span, one-zero c.args.span))
    (omega (arith, c.requires.0))
