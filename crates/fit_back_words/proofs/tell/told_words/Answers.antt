-- `fit_back_words::tell::told_words` meets its contract.
use mathlib.Core.Path.{◌∙◌}
use mathlib.Core.List.{[], ◌∷◌}
use mir.Syntax.{w32}
use Rattle.words.proofs.Fields.{kept}
use Rattle.words_call.proofs.Counting.{count-is}
use borrow.Author.Rules.{rules}
use Rattle.fit_back_words.proofs.tell.told_words.Goals as goal

pub returns : goal.returns
returns c =
    let f = c.args.fitted in
    let few = c.requires in
    let p = c.struct_told-1.given in
    let w1 = c.count_word in
    let w2 = c.count_word-2 in
    let w3 = c.count_word-3 in
    let w4 = c.link_word in
    let w5 = c.link_word-2 in
    let w8 = c.count_word-4 in
    let w9 = c.link_word-3 in
    let e1 = kept w32 w1.result w1.type_inv ∙ w1.ensures ∙ count-is _ few.gaps in
    let e2 = kept w32 w2.result w2.type_inv ∙ w2.ensures ∙ count-is _ few.stems in
    let e3 = kept w32 w3.result w3.type_inv ∙ w3.ensures ∙ count-is _ few.undone in
    let e4 = kept w32 w4.result w4.type_inv ∙ w4.ensures in
    let e5 = kept w32 w5.result w5.type_inv ∙ w5.ensures in
    let e6 = kept w32 f.gaps.pair.before p.1.1.0.1 in
    let e7 = kept w32 f.gaps.pair.after p.1.1.1.0.1 in
    let e8 = kept w32 w8.result w8.type_inv ∙ w8.ensures ∙ count-is _ few.passed in
    let e9 = kept w32 w9.result w9.type_inv ∙ w9.ensures in
    λ i. e1 i ∷ e2 i ∷ e3 i ∷ e4 i ∷ e5 i ∷ e6 i ∷ e7 i ∷ e8 i ∷ e9 i ∷ []
