-- `words_edge::edge::put_no_zone` meets its contract.
use Rattle.words_edge.proofs.Became.{unzone-law}
use borrow.Author.Rules.{rules}
use Rattle.words_edge.proofs.edge.put_no_zone.Goals as goal

pub returns : goal.returns
returns c =
    let two = c in
    let one = two in
    let s = one in
    unzone-law s.args.words.now _ _ s.args.i s.requires.0 s.requires.1 one.put_word.ensures two.put_word-2.ensures
