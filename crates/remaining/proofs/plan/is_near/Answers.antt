-- `remaining::plan::is_near` meets its contract.
use borrow.Author.Rules.{rules}
use mathlib.Core.Path.{◌∙◌}
use Rattle.place.proofs.Reach.{units-read}
use Rattle.remaining.specs.Plan.{is_close}
use Rattle.remaining.proofs.plan.is_near.Goals as goal

pub returns : goal.returns
returns c = let s = c in c.is_close.ensures ∙ λ i. is_close (units-read _ s.requires.0.opos i) (units-read _ s.requires.1.opos i)
