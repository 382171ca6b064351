-- `stems_cjk::stem::both_round` meets its contract.
use Rattle.stems_cjk.proofs.stem.both_round.Goals as goal

pub returns-then-edge : goal.returns-then-edge
returns-then-edge c = rw c.if-edge.true

pub returns : goal.returns
returns c = rw c.if-edge.false
