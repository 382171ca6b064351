-- `remaining_pass_words::find::done_behind` meets its contract.
use mathlib.Core.Path.{refl, sym, ap, ◌∙◌}
use Prim.Native.Nat.{ℕ, ◌+◌, ◌-◌}
use Rattle.words_call.specs.Lent.{edges_of}
use Rattle.words_edge.proofs.Wholes.{edges-len}
use Rattle.remaining.specs.Remaining.{done_from}
use Rattle.remaining_pass_words.proofs.Finding.{from_found, from-passed, from-none}
use Rattle.remaining_pass_words.proofs.find.done_behind.Goals as goal

pub loop-k-init : goal.loop-k-init
loop-k-init c =
    let ws = c.args.words.now in
    let i = c.args.i in
    (refl, ap (λ (n : ℕ). done_from (edges_of ws) (n - (i + 1)) (i + 1)) (sym (edges-len ws)))

pub returns-then-is_done : goal.returns-then-is_done
returns-then-is_done c =
    from_found (edges_of c.args.words.now) _ c.loop-k.k c.loop-k-test.true (sym c.is_done.ensures ∙ c.if-is_done.true) ∙ c.loop-k.invariant.1

pub loop-k-preserved : goal.loop-k-preserved
loop-k-preserved c = (
  c.loop-k.invariant.0,
  from-passed (edges_of c.args.words.now) _ c.loop-k.k c.loop-k-test.true (sym c.is_done.ensures ∙ c.if-is_done.false) ∙ c.loop-k.invariant.1,
)

pub returns : goal.returns
returns c = from-none (edges_of c.args.words.now) _ c.loop-k.k c.loop-k-test.false ∙ c.loop-k.invariant.1
