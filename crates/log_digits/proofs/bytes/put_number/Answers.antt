-- `log_digits::bytes::put_number` meets its contract: two bytes, one behind the other.
use borrow.Author.Rules.{rules}
use mathlib.Core.Path.{ap, ◌∙◌}
use mir.Syntax.{w16}
use mir.Val.{of_z}
use Rattle.signed.proofs.Signed.{is}
use Rattle.log_digits.proofs.Writing.{number-written}
use Rattle.log_digits.proofs.bytes.put_number.Goals as goal

pub returns : goal.returns
returns c =
    let first = c in
    let b = first in
    let s = b in
    number-written s.args.line.now s.args.at s.args.number b.bits_of-bits.result (b.bits_of-bits.ensures ∙ ap (of_z w16) (is s.ranges.number))
    s.requires.0 first.put_byte.ensures c.put_byte-2.ensures
