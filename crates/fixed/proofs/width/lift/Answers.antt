-- `fixed::width::lift` meets its contract.
use native.Mathlib.Omega.{arith}
use mathlib.Core.Path.{sym, ◌∙◌}
use Rattle.signed.proofs.Signed.{signed, is, nat_abs-is, one-zero}
use Rattle.fixed.proofs.Widths.{lifted-zero, lifted-wide, lifted-pos, lifted-neg}
use Rattle.fixed.proofs.width.lift.Goals as goal

pub returns-then-width-ge-ONE_PIXEL : goal.returns-then-width-ge-ONE_PIXEL
returns-then-width-ge-ONE_PIXEL c = let s = c in is s.ranges.width ∙ sym (lifted-wide s.args.width (omega (arith, signed, nat_abs-is s.args.width)))

pub returns-then-width : goal.returns-then-width
returns-then-width c = let s = c in is s.ranges.width ∙ sym (lifted-wide s.args.width (omega (arith, signed, nat_abs-is s.args.width)))

pub returns-then-width-gt0 : goal.returns-then-width-gt0
returns-then-width-gt0 c = let s = c in sym (lifted-pos s.args.width (omega (arith, signed)) (omega (arith, signed, one-zero s.args.width)))

pub returns-then-width-lt0 : goal.returns-then-width-lt0
returns-then-width-lt0 c =
    let s = c in sym (lifted-neg s.args.width (omega (arith, signed)) (omega (arith, signed, one-zero s.args.width)))

pub returns : goal.returns
returns c =
    let s = c in
    is s.ranges.width ∙ sym (lifted-zero s.args.width (omega (arith, signed, nat_abs-is s.args.width, one-zero s.args.width)))
