-- `words_edge::edge::put_serif` meets its contract.
use mathlib.Core.Path.{◌∙◌}
use mir.Syntax.{w32}
use Rattle.signed.proofs.Signed.{is, got}
use Rattle.words_edge.proofs.Became.{serif-law}
use borrow.Author.Rules.{rules}
use Rattle.words_edge.proofs.edge.put_serif.Goals as goal

pub returns : goal.returns
returns c =
    let put = c in
    let word = put in
    let s = word in
    serif-law s.args.words.now _ s.args.i _ s.args.serif s.requires.0 s.requires.1 s.requires.2 put.put_word.ensures
    (is (got w32 word.link_word.result word.link_word.type_inv) ∙ word.link_word.ensures)
