-- `weak_known::search::last_touched` meets its contract. The invariant: what is left is searched.
use native.Mathlib.Omega.{arith}
use mathlib.Core.Path.{sym, ◌∙◌}
use Rattle.weak_known.proofs.Entries.{last-here, last_on, last_end}
use Rattle.weak_known.proofs.search.last_touched.Goals as goal

pub returns-then-touched-i-ne0 : goal.returns-then-touched-i-ne0
returns-then-touched-i-ne0 c = sym (c.loop-i.invariant.1 ∙ last-here _ _ _ _ (omega arith) (omega arith) (omega (arith, c.if-touched-i-ne0.true)))

pub loop-i-preserved : goal.loop-i-preserved
loop-i-preserved c = (omega arith, c.loop-i.invariant.1 ∙ last_on _ _ _ _ (omega arith) (omega arith) c.if-touched-i-ne0.false)

pub returns : goal.returns
returns c = sym (c.loop-i.invariant.1 ∙ last_end _ _ _ _ (omega arith))
