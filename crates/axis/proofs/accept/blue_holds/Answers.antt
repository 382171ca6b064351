-- `axis::accept::blue_holds` meets its contract.
use Rattle.std.specs.Prelude.{None, Some}
use mathlib.Core.Path.{ap, ◌∙◌}
use mir.Syntax.{w32}
use Rattle.signed.proofs.Signed.{is, got}
use Rattle.axis.specs.Limits.{most_units}
use Rattle.axis.specs.Refusals.{within, blue_holds}
use borrow.Author.Rules.{rules}
use Rattle.axis.proofs.accept.blue_holds.Goals as goal

pub returns-in-None : goal.returns-in-None
unfolding blue_holds
returns-in-None c = rw c.in-None.is

pub returns-in-Some : goal.returns-in-Some
unfolding blue_holds
returns-in-Some c =
    rw c.in-Some.is (c.is_inside.ensures
    ∙ ap (within most_units) (is (got w32 c.in-Some.z c.in-Some.known_told-1-own.given.0.1)))
