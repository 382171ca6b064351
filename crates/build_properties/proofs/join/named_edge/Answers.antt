-- `build_properties::join::named_edge` meets its contract: by the two cases of an index.
use Rattle.std.specs.Prelude.{None, Some}
use borrow.Author.Rules.{rules}
use Rattle.build_properties.proofs.join.named_edge.Goals as goal

pub returns-in-None : goal.returns-in-None
returns-in-None c = rw c.in-None.is

pub returns-in-Some : goal.returns-in-Some
returns-in-Some c = rw c.in-Some.is
