-- `words_edge::edge::put_pos` meets its contract.
use mathlib.Core.Path.{◌∙◌}
use mir.Syntax.{w32}
use Rattle.signed.proofs.Signed.{is, got}
use Rattle.words_edge.proofs.Became.{place-law}
use borrow.Author.Rules.{rules}
use Rattle.words_edge.proofs.edge.put_pos.Goals as goal

pub returns : goal.returns
returns c =
    let two = c in
    let mark = two in
    let one = mark in
    let s = one in
    place-law s.args.words.now _ _ s.args.i s.args.pos _ _ s.args.mark s.requires.0 s.requires.1 one.put_word.ensures (is s.ranges.pos)
    two.put_word-2.ensures
    (is (got w32 mark.mark_word.result mark.mark_word.type_inv) ∙ mark.mark_word.ensures)
