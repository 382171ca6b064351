-- `stems::store::second_edge` meets its contract.
use mir.Syntax.{w32}
use Rattle.signed.proofs.Signed.{is, got}
use Rattle.stems.specs.Plan.{second_edge}
use borrow.Author.Rules.{rules}
use Rattle.stems.proofs.store.second_edge.Goals as goal

pub returns-in-Stays : goal.returns-in-Stays
unfolding second_edge
returns-in-Stays c = rw c.in-Stays.is

pub returns-in-Placed : goal.returns-in-Placed
unfolding second_edge
returns-in-Placed c = let k = c in rw k.in-Placed.is (rw (is (got w32 _ k.in-Placed.known_told-1-own.given.0.1)) at c.with_pos.ensures)

pub returns-in-Fixed : goal.returns-in-Fixed
unfolding second_edge
returns-in-Fixed c = let k = c in rw k.in-Fixed.is (rw (is (got w32 _ k.in-Fixed.known_told-in-Fixed-1-own.given.0.1)) at c.fix_at.ensures)
