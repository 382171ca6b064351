-- `zones::group::is_vertical` meets its contract.
use Rattle.zones.specs.Call.{is_vertical}
use borrow.Author.Rules.{rules}
use Rattle.zones.proofs.group.is_vertical.Goals as goal

pub returns-in-Horizontal : goal.returns-in-Horizontal
unfolding is_vertical
returns-in-Horizontal c = rw c.in-Horizontal.is

pub returns-in-Vertical : goal.returns-in-Vertical
unfolding is_vertical
returns-in-Vertical c = rw c.in-Vertical.is
