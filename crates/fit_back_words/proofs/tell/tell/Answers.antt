-- `fit_back_words::tell::tell` meets its contract.
use mathlib.Core.Path.{sym, ap, ◌∙◌}
use lib.ListN.{length}
use Rattle.fit_back_words.proofs.Telling.{written_all}
use borrow.Author.Rules.{rules}
use Rattle.fit_back_words.proofs.tell.tell.Goals as goal

pub returns : goal.returns
returns c =
    let w = c in
    let t = w in
    let s = t in
    w.write_words.ensures ∙ written_all _ _ (s.requires.0 ∙ sym (ap length t.told_words-words.ensures)) ∙ t.told_words-words.ensures
