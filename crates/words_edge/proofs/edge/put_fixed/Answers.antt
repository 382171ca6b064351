-- `words_edge::edge::put_fixed` meets its contract.
use Rattle.signed.proofs.Signed.{is}
use Rattle.words_edge.proofs.Became.{fix-law}
use borrow.Author.Rules.{rules}
use Rattle.words_edge.proofs.edge.put_fixed.Goals as goal

pub returns : goal.returns
returns c =
    let put = c in
    let flags = put in
    let one = flags in
    let s = one in
    fix-law s.args.words.now _ _ s.args.i s.args.pos _ s.args.mark c.read_flags-flags.result s.requires.1 s.requires.0 (is s.ranges.pos)
    one.put_pos.ensures
    c.read_flags-flags.ensures put.put_flags.ensures
