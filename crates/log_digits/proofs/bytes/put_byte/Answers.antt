-- `log_digits::bytes::put_byte` meets its contract: two digits, one behind the other.
use borrow.Author.Rules.{rules}
use native.Mathlib.Omega.{arith}
use lib.ListN.{length-set}
use Rattle.log_digits.proofs.Writing.{written_one}
use Rattle.log_digits.proofs.bytes.put_byte.Goals as goal

pub bounds-line-at-2 : goal.bounds-line-at-2
bounds-line-at-2 c = let s = c in rw (length-set s.args.line.now _ _) (omega (arith, s.requires))

pub returns : goal.returns
returns c =
    let s = c in
    written_one s.args.line.now s.args.at s.args.byte _ _ s.requires c.digit_of.ensures c.digit_of-2.ensures
