-- `fixed::width::standards_hold` meets its contract. The invariant: the list holds where what is left rises from the last standard.
use native.Mathlib.Omega.{arith}
use mathlib.Core.Path.{sym, ap, ◌∙◌}
use Prim.Native.Nat.{◌+◌}
use lib.ListN.{get_or, drop}
use lib.IntN.{ℤ, pos}
use mir.Syntax.{w32}
use mir.Val.{SFits}
use Rattle.signed.proofs.Signed.{signed, is, got}
use Rattle.fixed.specs.Width.{rises_from}
use Rattle.fixed.proofs.Widths.{holds-long, holds-start, rises-not-above, rises-too-large, rises-on, rises-end}
use Rattle.fixed.proofs.width.standards_hold.Goals as goal

pub returns-then-standards-gt-MOST_STANDARDS : goal.returns-then-standards-gt-MOST_STANDARDS
returns-then-standards-gt-MOST_STANDARDS c = sym (holds-long c.args.standards.now c.if-standards-gt-MOST_STANDARDS.true)

pub loop-standard-init : goal.loop-standard-init
loop-standard-init c = holds-start c.args.standards.now c.if-standards-gt-MOST_STANDARDS.false

pub returns-then-standard-last : goal.returns-then-standard-last
returns-then-standard-last c =
    let l = c.loop-standard in
    let k : SFits w32 (get_or c.args.standards.now l.standard-index (pos 0)) = got w32 _ c.standard-1.given in
    sym (l.invariant ∙ rises-not-above _ c.args.standards.now l.standard-index (omega arith) (omega (arith, signed)))

pub returns-then-standard-gt-MOST_STANDARD : goal.returns-then-standard-gt-MOST_STANDARD
returns-then-standard-gt-MOST_STANDARD c =
    let l = c.loop-standard in
    let k : SFits w32 (get_or c.args.standards.now l.standard-index (pos 0)) = got w32 _ c.standard-1.given in
    sym (l.invariant ∙ rises-too-large _ c.args.standards.now l.standard-index (omega arith) (omega (arith, signed)))

pub loop-standard-preserved : goal.loop-standard-preserved
loop-standard-preserved c =
    let l = c.loop-standard in
    let k : SFits w32 (get_or c.args.standards.now l.standard-index (pos 0)) = got w32 _ c.standard-1.given in
    l.invariant
    ∙ rises-on _ c.args.standards.now l.standard-index (omega arith) (omega (arith, signed)) (omega (arith, signed))
    ∙ ap (λ (z : ℤ). rises_from z (drop (l.standard-index + 1) c.args.standards.now)) (sym (is k))

pub returns : goal.returns
returns c =
    let l = c.loop-standard in
    sym (l.invariant ∙ rises-end _ c.args.standards.now l.standard-index (omega arith))
