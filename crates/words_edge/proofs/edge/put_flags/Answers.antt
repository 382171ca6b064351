-- `words_edge::edge::put_flags` meets its contract.
use mathlib.Core.Path.{◌∙◌}
use mir.Syntax.{w32}
use Rattle.signed.proofs.Signed.{is, got}
use Rattle.words_edge.proofs.Became.{flag-law}
use borrow.Author.Rules.{rules}
use Rattle.words_edge.proofs.edge.put_flags.Goals as goal

pub returns : goal.returns
returns c =
    let put = c in
    let word = put in
    let s = word in
    flag-law s.args.words.now _ s.args.i _ s.args.flags s.requires.0 s.requires.1 put.put_word.ensures
    (is (got w32 word.flags_word.result word.flags_word.type_inv) ∙ word.flags_word.ensures)
