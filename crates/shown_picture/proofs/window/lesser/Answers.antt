-- `shown_picture::window::lesser` meets its contract.
use native.Mathlib.Omega.{arith}
use mir.Syntax.{w32}
use Rattle.signed.proofs.Signed.{is, got, to-lt-true, to-lt-false, signed}
use Rattle.weak_contour.specs.Contour.{at}
use Rattle.shown_picture.proofs.Extremes.{lesser-second, lesser-first}
use Rattle.shown_picture.proofs.window.lesser.Goals as goal

pub returns-then-y-x : goal.returns-then-y-x
returns-then-y-x c =
    let p = is (got w32 (at c.args.list.now c.args.i) c.x-1.given) in
    let q = is (got w32 (at c.args.list.now c.args.j) c.y-1.given) in
    lesser-second c.args.list.now c.args.i c.args.j (to-lt-true (at c.args.list.now c.args.j) (at c.args.list.now c.args.i) (omega (arith, signed)))

pub returns : goal.returns
returns c =
    let p = is (got w32 (at c.args.list.now c.args.i) c.x-1.given) in
    let q = is (got w32 (at c.args.list.now c.args.j) c.y-1.given) in
    lesser-first c.args.list.now c.args.i c.args.j (to-lt-false (at c.args.list.now c.args.j) (at c.args.list.now c.args.i) (omega (arith, signed)))
