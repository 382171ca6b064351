-- `mend_amend_words::amend::amend_index` meets its contract.
use mathlib.Core.Path.{◌≡◌, refl, sym, ap, ◌∙◌}
use native.Mathlib.Omega.{arith}
use borrow.Author.Rules.{rules}
use mir.Syntax.{w32}
use Rattle.signed.proofs.Signed.{is, got}
use Rattle.mend_amend_words.specs.Amended.{kept_word}
use Rattle.mend_amend_words.proofs.Entries.{amended-as}
use Rattle.mend_amend_words.proofs.amend.amend_index.Goals as goal

pub returns : goal.returns
returns c =
    let amend = c in
    let kept = amend in
    let word = kept in
    let s = word in
    amended-as refl (is (got w32 kept.kept_word-new.result kept.kept_word-new.type_inv) ∙ kept.kept_word-new.ensures
    ∙ ap (kept_word s.args.n) (is (got w32 word.read_word.result word.read_word.type_inv) ∙ word.read_word.ensures))
    amend.amend.ensures
