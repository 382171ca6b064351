-- `tool_values::tables::axis_from` meets its contract.
use native.Mathlib.Omega.{arith}
use Rattle.tool_values.proofs.tables.axis_from.Goals as goal

pub loop-i-init : goal.loop-i-init
loop-i-init c = (omega arith, omega (arith, c.least-n.ensures))

pub loop-i-preserved : goal.loop-i-preserved
loop-i-preserved c = (omega arith, omega arith)
