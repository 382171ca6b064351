-- `edge_points::contour::is_on` meets its contract.
use native.Mathlib.Omega.{arith}
use borrow.Author.Tests.{lt-leb, le-leb}
use Rattle.edge_points.proofs.contour.is_on.Goals as goal

pub returns-then-p-contour : goal.returns-then-p-contour
returns-then-p-contour c = let a = c.args in rw (lt-leb a.contour.start a.p (omega arith))

pub returns : goal.returns
returns c = let a = c.args in rw (le-leb a.contour.start a.p (omega arith))
