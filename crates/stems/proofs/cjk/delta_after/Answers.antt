-- `stems::cjk::delta_after` meets its contract.
use mir.Syntax.{w32}
use Rattle.signed.proofs.Signed.{is, got}
use Rattle.stems.specs.Visit.{delta_after}
use borrow.Author.Rules.{rules}
use Rattle.stems.proofs.cjk.delta_after.Goals as goal

pub returns-in-Horizontal : goal.returns-in-Horizontal
unfolding delta_after
returns-in-Horizontal c =
    let s = c in
    rw c.in-Horizontal.is
    (rw (is (got w32 c.delta_beside.result c.delta_beside.type_inv)) (rw (is s.ranges.passed, is s.ranges.delta) at c.delta_beside.ensures))

pub returns-in-Vertical : goal.returns-in-Vertical
unfolding delta_after
returns-in-Vertical c = rw c.in-Vertical.is (is c.ranges.passed)
