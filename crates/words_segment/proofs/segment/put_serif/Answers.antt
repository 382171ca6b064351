-- `words_segment::segment::put_serif` meets its contract.
use mathlib.Core.Path.{refl, ◌∙◌}
use mir.Syntax.{w32}
use Rattle.signed.proofs.Signed.{is, got}
use Rattle.words_segment.proofs.Became.{serif-law}
use borrow.Author.Rules.{rules}
use Rattle.words_segment.proofs.segment.put_serif.Goals as goal

pub returns : goal.returns
returns c =
    let two = c in
    let word = two in
    let one = word in
    let s = one in
    serif-law s.args.words.now _ _ s.args.i _ _ s.args.serif s.requires.0 s.requires.1 s.requires.2 one.put_word.ensures refl
    two.put_word-2.ensures
    (is (got w32 word.link_word.result word.link_word.type_inv) ∙ word.link_word.ensures)
