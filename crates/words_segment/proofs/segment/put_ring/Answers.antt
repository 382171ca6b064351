-- `words_segment::segment::put_ring` meets its contract.
use mathlib.Core.Path.{◌∙◌}
use mir.Syntax.{w32}
use Rattle.signed.proofs.Signed.{is, got}
use Rattle.words_segment.proofs.Became.{next-law, ring-law}
use borrow.Author.Rules.{rules}
use Rattle.words_segment.proofs.segment.put_ring.Goals as goal

pub put_edge-requires : goal.put_edge-requires
put_edge-requires c =
    let put = c in
    let word = put in
    let s = word in
    let a =
    next-law s.args.words.now _ s.args.i _ s.args.next s.requires.0 s.requires.1 s.requires.3 put.put_word.ensures
    (is (got w32 word.link_word.result word.link_word.type_inv) ∙ word.link_word.ensures) in
    (a.0, a.1, s.requires.2)

pub returns : goal.returns
returns c =
    let edge = c in
    let put = edge in
    let word = put in
    let s = word in
    ring-law s.args.words.now _ _ s.args.i _ s.args.edge s.args.next s.requires.0 s.requires.1 s.requires.3 put.put_word.ensures
    (is (got w32 word.link_word.result word.link_word.type_inv) ∙ word.link_word.ensures) edge.put_edge.ensures
