-- `words_call::edges::edges_refusal` meets its contract: test by test.
use mathlib.Core.Path.{◌≡◌, refl, sym, ◌∙◌}
use mathlib.Core.Bool.{◌&&◌}
use Rattle.refusals.proofs.Tests.{none-tested}
use Rattle.refusals.proofs.Outcomes.{exit-answer, then-held, then-refused, then-last}
use Rattle.words_shape.specs.Shape.{edges_shown}
use Rattle.words_call.specs.Lent.{edges_front}
use Rattle.words_call.proofs.edges.edges_refusal.Goals as goal
use Rattle.words_call.proofs.edges.edges_refusal.Goals.{then-is_edges, else-is_edges}

pub returns-in_err-require : goal.returns-in_err-require
unfolding edges_front
returns-in_err-require c = then-refused _ none-tested c.in_err-require.ensures refl (exit-answer _ _ c.from_residual.ensures.1)

pub returns-in_err-require-2 : goal.returns-in_err-require-2
unfolding edges_front
returns-in_err-require-2 c =
    let t1 = then-held none-tested c.in_ok-require.ensures refl in
    then-refused _ t1 c.in_err-require-2.ensures c.few_edges.ensures (exit-answer _ _ c.from_residual-in_err-require-2.ensures.1)

pub returns : goal.returns
unfolding edges_front
returns c =
    let t1 = then-held none-tested c.in_ok-require.ensures refl in
    let t2 = then-held t1 c.in_ok-require-2.ensures c.few_edges.ensures in
    let shown : c.if-is_edges.require ≡ (edges_shown c.args.edges.now && c.args.others) =
    elim c.if-is_edges.branch [
      | then-is_edges w ↦ rw (sym c.is_edges.ensures ∙ w.if-is_edges.true) w.require-is
      | else-is_edges w ↦ rw (sym c.is_edges.ensures ∙ w.if-is_edges.false) (cc)
    ] in
    then-last t2 c.require-3.ensures shown
