-- `shown_lines::line::cross_side` meets its contract.
use native.Mathlib.Omega.{arith}
use Rattle.shown_lines.specs.Lines.{below, above}
use Rattle.shown_lines.proofs.Winding.{wound-up, wound-down, wound-stays}
use Rattle.shown_lines.proofs.line.cross_side.Goals as goal

pub returns-then-y-qy : goal.returns-then-y-qy
returns-then-y-qy c = wound-up c.args.left c.args.px c.args.py c.args.qx c.args.qy c.args.y c.args.changes.now _
    (omega (arith, c.if-py-y.true)) (omega (arith, c.if-y-qy.true)) c.cross_line.ensures

pub returns-then-py-y : goal.returns-then-py-y
returns-then-py-y c = wound-stays c.args.left c.args.px c.args.py c.args.qx c.args.qy c.args.y c.args.changes.now
    (below (omega (arith, c.if-py-y.true)) (omega (arith, c.if-y-qy.false)))

pub returns-then-qy-y : goal.returns-then-qy-y
returns-then-qy-y c = wound-down c.args.left c.args.px c.args.py c.args.qx c.args.qy c.args.y c.args.changes.now _
    (omega (arith, c.if-qy-y.true)) (omega (arith, c.if-py-y.false)) c.cross_line-then-qy-y.ensures

pub returns-else-qy-y : goal.returns-else-qy-y
returns-else-qy-y c = wound-stays c.args.left c.args.px c.args.py c.args.qx c.args.qy c.args.y c.args.changes.now
    (above (omega (arith, c.if-py-y.false)) (omega (arith, c.if-qy-y.false)))
