-- `lowercase_m::stems::group_holds` meets its contract.
use Rattle.lowercase_m.specs.M.{group_holds}
use borrow.Author.Rules.{rules}
use Rattle.lowercase_m.proofs.stems.group_holds.Goals as goal

pub returns-in-Default : goal.returns-in-Default
unfolding group_holds
returns-in-Default c = rw c.in-Default.is

pub returns-in-Cjk : goal.returns-in-Cjk
unfolding group_holds
returns-in-Cjk c = rw c.in-Cjk.is c.linked_on.ensures
