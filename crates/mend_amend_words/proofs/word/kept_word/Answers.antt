-- `mend_amend_words::word::kept-word` meets its contract.
use mathlib.Core.Path.{◌≡◌, sym, ap, ◌∙◌}
use mathlib.Core.Bool.{Bool, cond}
use borrow.Author.Rules.{rules}
use borrow.Author.Tests.{lt-ltb, le-ltb}
use lib.IntN.{negsuc}
use native.Mathlib.Omega.{arith}
use Rattle.signed.specs.Parts.{up}
use Rattle.signed.proofs.Signed.{is}
use Rattle.mend_amend_words.proofs.word.kept_word.Goals as goal

pub returns-then-size_of-n : goal.returns-then-size_of-n
returns-then-size_of-n c =
    let s = c in
    let size = c.size_of.ensures ∙ ap up (is s.ranges.word) in
    is s.ranges.word ∙ sym (ap (λ (b : Bool). cond b s.args.word (negsuc 0))
    (lt-ltb (up s.args.word) s.args.n (omega (arith, size, c.if-size_of-n.true))))

pub returns : goal.returns
returns c =
    let s = c in
    let size = c.size_of.ensures ∙ ap up (is s.ranges.word) in
    sym (ap (λ (b : Bool). cond b s.args.word (negsuc 0)) (le-ltb (up s.args.word) s.args.n (omega (arith, size, c.if-size_of-n.false))))
