-- `words_segment::segment::put_stem` meets its contract.
use mathlib.Core.Path.{◌∙◌}
use native.Mathlib.Omega.{arith}
use mir.Syntax.{w32}
use Rattle.signed.proofs.Signed.{is, got}
use Rattle.words_segment.proofs.Became.{join-law}
use borrow.Author.Rules.{rules}
use Rattle.words_segment.proofs.segment.put_stem.Goals as goal

pub returns : goal.returns
returns c =
    let three = c in
    let index = three in
    let two = index in
    let one = two in
    let s = one in
    join-law s.args.words.now _ _ _ s.args.i s.args.score s.args.len _ _ _ s.args.ix s.requires.0 s.requires.1 (omega (arith, s.ranges.ix))
    one.put_word.ensures
    (is s.ranges.score)
    two.put_word-2.ensures (is s.ranges.len) three.put_word-3.ensures
    (is (got w32 index.index_word.result index.index_word.type_inv) ∙ index.index_word.ensures)
