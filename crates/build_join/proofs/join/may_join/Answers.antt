-- `build_join::join::may_join` meets its contract: by its two tests.
use borrow.Author.Rules.{rules}
use borrow.Author.Tests.{not-true, not-false}
use native.Mathlib.Omega.{arith}
use mir.Syntax.{w32}
use Rattle.signed.proofs.Signed.{is, got}
use Rattle.build_join.proofs.Searching.{test-no, test-yes}
use Rattle.build_join.proofs.join.may_join.Goals as goal

pub returns-then-not-fits : goal.returns-then-not-fits
returns-then-not-fits c = test-no _ _ _ c.fits.ensures (c.if-not-fits.true)

pub offset_bounds-stems-i : goal.offset_bounds-stems-i
offset_bounds-stems-i c = omega arith

pub bounds-stems-i : goal.bounds-stems-i
bounds-stems-i c = omega arith

pub ring_agrees-requires : goal.ring_agrees-requires
ring_agrees-requires c = let start = c in (start.requires.1, start.requires.2)

pub returns : goal.returns
returns c =
    let else1 = c in
    test-yes _ _ _ _ else1.fits.ensures (else1.if-not-fits.false)
    (rw (is (got w32 _ c.ring_agrees-arg-1.given)) at c.ring_agrees.ensures)
