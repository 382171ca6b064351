-- `words_segment::segment::put_no_link` meets its contract.
use mathlib.Core.Path.{refl}
use Rattle.words_segment.proofs.Became.{unlink-law}
use borrow.Author.Rules.{rules}
use Rattle.words_segment.proofs.segment.put_no_link.Goals as goal

pub returns : goal.returns
returns c =
    let put = c in
    let s = put in
    unlink-law s.args.words.now _ s.args.i _ s.requires.0 s.requires.1 put.put_word.ensures refl
