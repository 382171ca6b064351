-- `remaining_pass_words::store::store_in` meets its contract.
use Rattle.signed.proofs.Signed.{is}
use Rattle.remaining_pass_words.proofs.Stores.{stays-law, placed-law, fixed-law, held-law}
use borrow.Author.Rules.{rules}
use Rattle.remaining_pass_words.proofs.store.store_in.Goals as goal

pub hold_in-requires : goal.hold_in-requires
hold_in-requires c = (c.requires.0, c.requires.1, c.requires.2, rw (is c.ranges.pos) c.requires.3)

pub returns-in-Stays : goal.returns-in-Stays
returns-in-Stays c = stays-law c.args.i c.args.pos c.args.mark c.requires.0 c.in-Stays.is

pub returns-in-Placed : goal.returns-in-Placed
returns-in-Placed c =
    placed-law c.args.i c.args.pos c.args.mark (is c.ranges.pos) c.in-Placed.is c.put_pos.ensures

pub returns-in-Fixed : goal.returns-in-Fixed
returns-in-Fixed c =
    fixed-law c.args.i c.args.pos c.args.mark (is c.ranges.pos) c.in-Fixed.is c.put_fixed.ensures

pub returns-in-Held : goal.returns-in-Held
returns-in-Held c =
    held-law c.args.i c.args.pos c.args.mark (is c.ranges.pos) c.in-Held.is c.hold_in.ensures
