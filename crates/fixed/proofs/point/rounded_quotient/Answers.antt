-- `fixed::point::rounded_quotient` meets its contract: it is the definition.
use borrow.Author.Rules.{rules}
use Rattle.fixed.specs.Point.{rounded}
use Rattle.fixed.proofs.point.rounded_quotient.Goals as goal

pub returns : goal.returns
unfolding rounded
returns c = search rules
