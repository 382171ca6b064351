-- `log_frame::write::put_ends` meets its contract. The invariant: what is written so far.
use native.Mathlib.Omega.{arith}
use Rattle.log_frame.proofs.Composed.{ends-none, ends_more, ends-all}
use Rattle.log_frame.proofs.write.put_ends.Goals as goal

pub loop-i-init : goal.loop-i-init
loop-i-init c = ends-none _ _ _

pub overflow_cast-end : goal.overflow_cast-end
overflow_cast-end c = omega (arith, c.requires.1 c.loop-i.i)

pub overflow_add-at : goal.overflow_add-at
overflow_add-at c = omega (arith, c.requires.0)

pub put_byte-requires : goal.put_byte-requires
put_byte-requires c = omega (arith, c.requires.0, c.loop-i.invariant.kept)

pub loop-i-preserved : goal.loop-i-preserved
loop-i-preserved c = ends_more c.loop-i.invariant (omega arith) c.requires.0 c.put_byte.ensures

pub shape_of-line : goal.shape_of-line
shape_of-line c = c.loop-i.invariant.kept

pub returns : goal.returns
returns c = ends-all c.loop-i.invariant (omega arith)
