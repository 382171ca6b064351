-- `stems_cjk::gap::gap_of` meets its contract.
use native.Mathlib.Omega.{arith}
use lib.IntN.{pos}
use lib.Signed.{quot_z}
use mir.Syntax.{w32}
use mir.Val.{SFits, to_z, of_z}
use Rattle.signed.proofs.Signed.{i32, is, fits-quot, back_fits, signed}
use Rattle.stems_cjk.specs.Cjk.{gap_of}
use borrow.Author.Rules.{rules}
use Rattle.stems_cjk.proofs.gap.gap_of.Goals as goal
use Rattle.stems_cjk.proofs.gap.gap_of.Goals.{Else-round}

pub returns-then-stem_adjust : goal.returns-then-stem_adjust
unfolding gap_of
returns-then-stem_adjust c = (rw c.if-stem_adjust.true, i32 (omega (arith, signed)) tt tt)

pub returns-then-round : goal.returns-then-round
unfolding gap_of
returns-then-round c =
    let m = c.before in
    let o = m.before in
    let k = m.max_gap-gap.ensures.1 in
    (rw (o.if-stem_adjust.false, c.if-round.true, is k.fits) m.max_gap-gap.ensures.0, i32 (omega (arith, signed)) tt tt)

-- a third fits
quotient : (c : Else-round) → SFits w32 (quot_z (to_z w32 (of_z w32 c.max_gap-gap.result)) (pos 3))
quotient c = fits-quot _ 3 (back_fits c.max_gap-gap.ensures.1.fits) tt

pub nonzero_div-result : goal.nonzero_div-result
nonzero_div-result c = (omega arith, quotient c)

pub returns : goal.returns
unfolding gap_of
returns c =
    let m = c.before in
    let o = m.before in
    let k = m.max_gap-gap.ensures.1 in
    let q = quotient c in
    (rw (o.if-stem_adjust.false, c.if-round.false, is q, is k.fits, m.max_gap-gap.ensures.0), i32 (omega (arith, signed)) tt tt)
