-- `weak_drag::refuse::is_there` meets its contract.
use native.Mathlib.Omega.{arith}
use Rattle.weak_drag.proofs.Refusals.{not_there, there}
use Rattle.weak_drag.proofs.refuse.is_there.Goals as goal

pub returns-then-touched-p : goal.returns-then-touched-p
returns-then-touched-p c = not_there _ _ (omega (arith, c.if-touched-p.true))

pub returns : goal.returns
returns c = there _ _ (omega (arith, c.if-touched-p.false))
