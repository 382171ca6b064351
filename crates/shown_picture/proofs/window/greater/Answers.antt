-- `shown_picture::window::greater` meets its contract.
use native.Mathlib.Omega.{arith}
use mir.Syntax.{w32}
use Rattle.signed.proofs.Signed.{is, got, to-lt-true, to-lt-false, signed}
use Rattle.weak_contour.specs.Contour.{at}
use Rattle.shown_picture.proofs.Extremes.{greater-second, greater-first}
use Rattle.shown_picture.proofs.window.greater.Goals as goal

pub returns-then-x-y : goal.returns-then-x-y
returns-then-x-y c =
    let p = is (got w32 (at c.args.list.now c.args.i) c.x-1.given) in
    let q = is (got w32 (at c.args.list.now c.args.j) c.y-1.given) in
    greater-second c.args.list.now c.args.i c.args.j (to-lt-true (at c.args.list.now c.args.i) (at c.args.list.now c.args.j) (omega (arith, signed)))

pub returns : goal.returns
returns c =
    let p = is (got w32 (at c.args.list.now c.args.i) c.x-1.given) in
    let q = is (got w32 (at c.args.list.now c.args.j) c.y-1.given) in
    greater-first c.args.list.now c.args.i c.args.j (to-lt-false (at c.args.list.now c.args.i) (at c.args.list.now c.args.j) (omega (arith, signed)))
