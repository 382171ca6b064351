-- `zones::zone::zone_of` meets its contract.
use Rattle.std.specs.Prelude.{None, Some}
use mathlib.Core.Path.{ap}
use mir.Syntax.{w32}
use Rattle.signed.proofs.Signed.{is, got}
use Rattle.zones.specs.Steps.{zone_of}
use borrow.Author.Rules.{rules}
use Rattle.zones.proofs.zone.zone_of.Goals as goal

pub returns-in-None : goal.returns-in-None
unfolding zone_of
returns-in-None c = rw c.in-None.is

pub returns-in-Some : goal.returns-in-Some
unfolding zone_of
returns-in-Some c = rw c.in-Some.is (ap Some (is (got w32 _ c.in-Some.known_told-1-own.given.0.1)))
