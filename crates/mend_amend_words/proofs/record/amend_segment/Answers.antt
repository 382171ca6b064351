-- `mend_amend_words::record::amend_segment` meets its contract: three fields one behind the other.
use native.Mathlib.Omega.{arith}
use borrow.Author.Rules.{rules}
use mathlib.Core.Path.{refl, ap, ◌∙◌}
use mir.Syntax.{w32}
use Rattle.signed.proofs.Signed.{is, got}
use Rattle.mend_amend_words.specs.Amended.{next_word}
use Rattle.mend_amend_words.proofs.Entries.{amended-as}
use Rattle.mend_amend_words.proofs.Records.{segment-amended}
use Rattle.mend_amend_words.proofs.record.amend_segment.Goals as goal

pub returns : goal.returns
returns c =
    let three = c in
    let third = three in
    let next = third in
    let word = next in
    let two = word in
    let second = two in
    let one = second in
    let first = one in
    let s = first in
    segment-amended s.args.segments.now _ _ _ s.args.room.now _ _ _ s.args.i s.args.edge s.args.led s.args.count _ _ _ _ s.requires.0
    s.requires.1 (omega arith) s.requires.2 s.requires.3
    (amended-as first.field_of-link.ensures refl one.amend_index-count.ensures) (amended-as second.field_of-serif.ensures refl two.amend_index-count-2.ensures)
    (amended-as third.field_of-next.ensures (is (got w32 next.next_word-after.result next.next_word-after.type_inv)) three.amend.ensures)
    (next.next_word-after.ensures ∙ ap (next_word _ s.args.edge s.args.led)
    (is (got w32 word.read_word.result word.read_word.type_inv) ∙ word.read_word.ensures))
