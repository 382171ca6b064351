-- `tool_values::tables::segments_from` meets its contract.
use native.Mathlib.Omega.{arith}
use Rattle.tool_values.proofs.tables.segments_from.Goals as goal

pub loop-i-init : goal.loop-i-init
loop-i-init c = (omega arith, omega (arith, c.least-n.ensures))

pub loop-i-preserved : goal.loop-i-preserved
loop-i-preserved c = (omega arith, omega arith)
