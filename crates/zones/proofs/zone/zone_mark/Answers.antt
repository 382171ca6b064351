-- `zones::zone::zone_mark` meets its contract.
use Rattle.std.specs.Prelude.{None, Some}
use Rattle.zones.specs.Zones.{zone_mark}
use borrow.Author.Rules.{rules}
use Rattle.zones.proofs.zone.zone_mark.Goals as goal

pub returns-in-None : goal.returns-in-None
unfolding zone_mark
returns-in-None c = rw c.in-None.is

pub returns-in-Some : goal.returns-in-Some
unfolding zone_mark
returns-in-Some c = rw c.in-Some.is
