-- `words_call::word::named_edge` meets its contract.
use borrow.Author.Rules.{rules}
use native.Mathlib.Omega.{arith}
use mathlib.Core.Path.{ap, ◌∙◌}
use Prim.Native.Nat.{ℕ, min}
use Rattle.signed.specs.Parts.{up}
use Rattle.signed.proofs.Signed.{signed, is}
use Rattle.axis.specs.Limits.{most_edges}
use Rattle.words_call.proofs.Naming.{names-none, names-one}
use Rattle.words_call.proofs.word.named_edge.Goals as goal

pub returns-then-word-lt0 : goal.returns-then-word-lt0
returns-then-word-lt0 c = names-none c.args.word (omega (arith, signed))

pub returns : goal.returns
returns c =
    let s = c in
    c.min.ensures ∙ ap (λ (n : ℕ). min n most_edges) (c.size_of.ensures ∙ ap up (is s.ranges.word))
    ∙ names-one s.args.word (omega (arith, signed))
