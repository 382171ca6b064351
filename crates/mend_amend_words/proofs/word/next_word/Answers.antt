-- `mend_amend_words::word::next-word` meets its contract.
use mathlib.Core.Path.{◌≡◌, sym, ap, ◌∙◌}
use mathlib.Core.Bool.{Bool, cond}
use borrow.Author.Rules.{rules}
use borrow.Author.Tests.{lt-ltb, le-ltb}
use native.Mathlib.Omega.{arith}
use mir.Syntax.{w32}
use lib.IntN.{pos}
use Rattle.axis.specs.Limits.{most_edges}
use Rattle.signed.proofs.Signed.{is, got}
use Rattle.mend_amend_words.specs.Amended.{kept_word}
use Rattle.mend_amend_words.proofs.word.next_word.Goals as goal

pub returns-then-place-lt-MOST_EDGES : goal.returns-then-place-lt-MOST_EDGES
returns-then-place-lt-MOST_EDGES c =
    let p = c in
    let s = p in
    is (got w32 c.index_word.result c.index_word.type_inv) ∙ c.index_word.ensures
    ∙ sym (ap (λ (b : Bool). cond b (pos s.args.led) (kept_word s.args.n s.args.word))
    (lt-ltb s.args.edge most_edges (omega (arith, p.place.ensures, c.if-place-lt-MOST_EDGES.true))))

pub returns : goal.returns
returns c =
    let p = c in
    let s = p in
    is (got w32 c.kept_word.result c.kept_word.type_inv) ∙ c.kept_word.ensures ∙ ap (kept_word s.args.n) (is s.ranges.word)
    ∙ sym (ap (λ (b : Bool). cond b (pos s.args.led) (kept_word s.args.n s.args.word))
    (le-ltb s.args.edge most_edges (omega (arith, p.place.ensures, c.if-place-lt-MOST_EDGES.false))))
