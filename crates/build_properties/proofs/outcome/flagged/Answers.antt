-- `build_properties::outcome::flagged` meets its contract: by the way of the join.
use Rattle.build_properties.proofs.outcome.flagged.Goals as goal

pub returns-then-join : goal.returns-then-join
returns-then-join c = rw c.if-join.true

pub returns : goal.returns
returns c = rw c.if-join.false
