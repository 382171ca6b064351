-- `fixed::width::rule_holds` meets its contract.
use Rattle.fixed.specs.Width.{rule_holds}
use Rattle.fixed.proofs.width.rule_holds.Goals as goal

pub returns-in-Keep : goal.returns-in-Keep
unfolding rule_holds
returns-in-Keep c = rw c.in-Keep.is

pub returns-in-Snap : goal.returns-in-Snap
unfolding rule_holds
returns-in-Snap c = rw c.in-Snap.is c.standards_hold.ensures
