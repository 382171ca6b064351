-- `mend_amend_words::word::end_word` meets its contract.
use mathlib.Core.Path.{◌≡◌, sym, ap, ◌∙◌}
use mathlib.Core.Bool.{Bool, cond}
use borrow.Author.Rules.{rules}
use mir.Syntax.{w32}
use lib.IntN.{pos}
use Rattle.signed.proofs.Signed.{is, got}
use Rattle.mend_amend_words.proofs.word.end_word.Goals as goal

pub returns-then-broken : goal.returns-then-broken
returns-then-broken c =
    let s = c in
    is (got w32 c.index_word.result c.index_word.type_inv) ∙ c.index_word.ensures
    ∙ sym (ap (λ (b : Bool). cond b (pos s.args.segment) s.args.word) c.if-broken.true)

pub returns : goal.returns
returns c =
    let s = c in
    is s.ranges.word ∙ sym (ap (λ (b : Bool). cond b (pos s.args.segment) s.args.word) c.if-broken.false)
