-- `zones::group::has_blues` meets its contract.
use Rattle.zones.specs.Call.{has_blues}
use borrow.Author.Rules.{rules}
use Rattle.zones.proofs.group.has_blues.Goals as goal

pub returns-in-Default : goal.returns-in-Default
unfolding has_blues
returns-in-Default c = rw c.in-Default.is c.is_vertical.ensures

pub returns-in-Cjk : goal.returns-in-Cjk
unfolding has_blues
returns-in-Cjk c = rw c.in-Cjk.is
