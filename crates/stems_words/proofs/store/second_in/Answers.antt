-- `stems_words::store::second_in` meets its contract.
use mir.Syntax.{w32}
use Rattle.signed.proofs.Signed.{is, got}
use Rattle.stems_words.proofs.Stores.{second-stays, second-placed, second-fixed}
use borrow.Author.Rules.{rules}
use Rattle.stems_words.proofs.store.second_in.Goals as goal

pub returns-in-Stays : goal.returns-in-Stays
returns-in-Stays c = second-stays c.args.k c.requires.0 c.in-Stays.is

pub returns-in-Placed : goal.returns-in-Placed
returns-in-Placed c = second-placed c.args.k c.in-Placed.is (is (got w32 _ c.in-Placed.known_told-1-own.given.0.1)) c.put_pos.ensures

pub returns-in-Fixed : goal.returns-in-Fixed
returns-in-Fixed c = second-fixed c.args.k c.in-Fixed.is (is (got w32 _ c.in-Fixed.known_told-in-Fixed-1-own.given.0.1)) c.put_fixed.ensures
