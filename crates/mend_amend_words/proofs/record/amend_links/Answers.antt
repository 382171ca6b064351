-- `mend_amend_words::record::amend_links` meets its contract.
use native.Mathlib.Omega.{arith}
use borrow.Author.Rules.{rules}
use mathlib.Core.Path.{refl}
use Rattle.mend_amend_words.proofs.Entries.{amended-as}
use Rattle.mend_amend_words.proofs.Records.{links-amended}
use Rattle.mend_amend_words.proofs.record.amend_links.Goals as goal

pub returns : goal.returns
returns c =
    let two = c in
    let second = two in
    let one = second in
    let first = one in
    let s = first in
    links-amended s.args.edges.now _ _ s.args.room.now _ _ s.args.k s.args.count _ _ s.requires.0 s.requires.1 _
    (amended-as first.field_of-link.ensures refl one.amend_index-count.ensures) (amended-as second.field_of-serif.ensures refl two.amend_index.ensures) refl
    s.requires.2 s.requires.3
