-- `zones::zone::anchor_first` meets its contract.
use Rattle.std.specs.Prelude.{None, Some}
use Rattle.zones.specs.Zones.{anchor_first}
use borrow.Author.Rules.{rules}
use Rattle.zones.proofs.zone.anchor_first.Goals as goal

pub returns-in-None : goal.returns-in-None
unfolding anchor_first
returns-in-None c = rw c.in-None.is

pub returns-in-Some : goal.returns-in-Some
unfolding anchor_first
returns-in-Some c = rw c.in-Some.is
