-- `weak_contour::contour::interpolate_some` meets its contract: where there are no points none is written.
use borrow.Author.Rules.{rules}
use native.Mathlib.Omega.{arith}
use mathlib.Core.Path.{◌≡◌, sym}
use Rattle.weak_contour.proofs.Writing.{wrote_none}
use Rattle.weak_contour.proofs.contour.interpolate_some.Goals as goal

pub returns-else-from-to : goal.returns-else-from-to
returns-else-from-to c = let a = c.args in
    let e : a.from ≡ a.to = omega arith in
    rw (sym e) (wrote_none _ a.from a.currents.now)
