-- `words_segment::segment::put_edge` meets its contract.
use mathlib.Core.Path.{◌∙◌}
use mir.Syntax.{w32}
use Rattle.signed.proofs.Signed.{is, got}
use Rattle.words_segment.proofs.Became.{edge-law}
use borrow.Author.Rules.{rules}
use Rattle.words_segment.proofs.segment.put_edge.Goals as goal

pub returns : goal.returns
returns c =
    let put = c in
    let word = put in
    let s = word in
    edge-law s.args.words.now _ s.args.i _ s.args.edge s.requires.0 s.requires.1 s.requires.2 put.put_word.ensures
    (is (got w32 word.link_word.result word.link_word.type_inv) ∙ word.link_word.ensures)
