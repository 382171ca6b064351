-- `mend::tally::lower` meets its contract.
use mathlib.Core.Path.{sym, ap}
use mathlib.Core.Bool.{Bool, cond}
use borrow.Author.Tests.{eq-eqb, ne_eqb}
use Rattle.mend.proofs.tally.lower.Goals as goal

pub returns-then-count-eq0 : goal.returns-then-count-eq0
returns-then-count-eq0 c = let a = c.args in sym (ap (λ (b : Bool). cond b a.i a.low) (eq-eqb _ _ c.if-count-eq0.true))

pub returns : goal.returns
returns c = let a = c.args in sym (ap (λ (b : Bool). cond b a.i a.low) (ne_eqb _ _ c.if-count-eq0.false))
