-- `mend_amend_words::record::amend_ends` meets its contract.
use native.Mathlib.Omega.{arith}
use borrow.Author.Rules.{rules}
use mathlib.Core.Path.{ap, ◌∙◌}
use mathlib.Core.Bool.{cond}
use mir.Syntax.{w32}
use lib.IntN.{pos}
use Rattle.signed.proofs.Signed.{is, got}
use Rattle.mend_amend_words.proofs.Entries.{amended-as}
use Rattle.mend_amend_words.proofs.Records.{ends-amended}
use Rattle.mend_amend_words.proofs.record.amend_ends.Goals as goal

pub returns : goal.returns
returns c =
    let two = c in
    let second = two in
    let highest = second in
    let last = highest in
    let one = last in
    let first = one in
    let lowest = first in
    let word = lowest in
    let s = word in
    let a = s.args in
    ends-amended a.edges.now _ _ a.room.now _ _ a.k a.low a.high a.count _ _ a.broken _ _ s.requires.0 s.requires.1 (omega arith)
    (omega arith)
    (amended-as first.field_of-first.ensures (is (got w32 lowest.end_word-lowest.result lowest.end_word-lowest.type_inv)) one.amend-count.ensures)
    (lowest.end_word-lowest.ensures ∙ ap (cond a.broken (pos a.low)) (is (got w32 word.read_word.result word.read_word.type_inv) ∙ word.read_word.ensures))
    (amended-as second.field_of-last.ensures (is (got w32 highest.end_word-highest.result highest.end_word-highest.type_inv)) two.amend.ensures)
    (highest.end_word-highest.ensures ∙ ap (cond a.broken (pos a.high))
    (is (got w32 last.read_word-2.result last.read_word-2.type_inv) ∙ last.read_word-2.ensures))
    s.requires.2 s.requires.3
