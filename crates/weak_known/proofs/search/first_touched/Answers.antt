-- `weak_known::search::first_touched` meets its contract. The invariant: what is left is searched.
use native.Mathlib.Omega.{arith}
use mathlib.Core.Path.{sym, ◌∙◌}
use Rattle.weak_known.proofs.Entries.{first-here, first_on, first-end}
use Rattle.weak_known.proofs.search.first_touched.Goals as goal

pub returns-then-touched-i-ne0 : goal.returns-then-touched-i-ne0
returns-then-touched-i-ne0 c = sym (c.loop-i.invariant ∙ first-here _ _ _ (omega arith) (omega (arith, c.if-touched-i-ne0.true)))

pub loop-i-preserved : goal.loop-i-preserved
loop-i-preserved c = c.loop-i.invariant ∙ first_on _ _ _ (omega arith) c.if-touched-i-ne0.false

pub returns : goal.returns
returns c = sym (c.loop-i.invariant ∙ first-end _ _ _ (omega arith))
