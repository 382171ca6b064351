-- `strong_words::search::find_edge` meets its contract.
use borrow.Author.Rules.{rules}
use native.Mathlib.Omega.{arith}
use mathlib.Core.Path.{ap, ◌∙◌}
use lib.IntN.{ℤ}
use Rattle.signed.proofs.Signed.{is}
use Rattle.words.specs.Edge.{edges_in}
use Rattle.words_call.specs.Lent.{edges_of}
use Rattle.strong.specs.Strong.{one_by_one, by_halving, fpos_at}
use Rattle.strong_words.proofs.Reading.{few-found, many-found}
use Rattle.strong_words.proofs.search.find_edge.Goals as goal

pub returns-then-words-le-MOST_ONE_BY_ONE : goal.returns-then-words-le-MOST_ONE_BY_ONE
returns-then-words-le-MOST_ONE_BY_ONE c =
    let s = c in
    let ws = s.args.words.now in
    c.one_by_one.ensures ∙ ap (λ (z : ℤ). one_by_one (fpos_at (edges_of ws)) z 0 (edges_in ws)) (is s.ranges.u)
    ∙ few-found ws s.args.u (omega (arith, c.if-words-le-MOST_ONE_BY_ONE.true))

pub returns : goal.returns
returns c =
    let s = c in
    let ws = s.args.words.now in
    c.by_halving.ensures ∙ ap (λ (z : ℤ). by_halving (fpos_at (edges_of ws)) z (edges_in ws) 0 (edges_in ws)) (is s.ranges.u)
    ∙ many-found ws s.args.u (omega (arith, c.if-words-le-MOST_ONE_BY_ONE.false))
