-- `stems::plan::falls_back` meets its contract.
use mathlib.Core.Path.{ap, sym, ◌∙◌}
use mathlib.Core.Bool.{Bool, ◌&&◌}
use Rattle.axis.specs.Edge.{has_blue}
use borrow.Author.Rules.{rules}
use Rattle.stems.proofs.plan.falls_back.Goals as goal

pub returns-then-fallback : goal.returns-then-fallback
returns-then-fallback c = let s = c in c.has_blue.ensures ∙ ap (λ (b : Bool). b && has_blue s.args.edge2.blue) (sym c.if-fallback.true)

pub returns : goal.returns
returns c = rw c.if-fallback.false
