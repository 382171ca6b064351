-- `words_call::word::named_anchor` meets its contract.
use Rattle.std.specs.Prelude.{Some}
use borrow.Author.Rules.{rules}
use native.Mathlib.Omega.{arith}
use mathlib.Core.Path.{sym, ap, ◌∙◌}
use mir.Syntax.{w32}
use mir.Val.{to_z, of_z}
use Rattle.signed.proofs.Signed.{is}
use Rattle.words_call.specs.Lent.{named_edge}
use Rattle.words_call.proofs.Naming.{anchor-none, anchor-named, named-short}
use Rattle.words_call.proofs.word.named_anchor.Goals as goal

pub returns-then-word-eqminus1 : goal.returns-then-word-eqminus1
returns-then-word-eqminus1 c = let s = c in anchor-none s.args.word (sym (is s.ranges.word) ∙ ap (to_z w32) c.if-word-eqminus1.true)

pub overflow_cast-result : goal.overflow_cast-result
overflow_cast-result c = omega (arith, c.named_edge.ensures, named-short (to_z w32 (of_z w32 c.args.word)))

pub returns : goal.returns
returns c =
    let s = c in
    ap Some (c.named_edge.ensures ∙ ap named_edge (is s.ranges.word)) ∙ anchor-named s.args.word (λ e. c.if-word-eqminus1.false (ap (of_z w32) e))
