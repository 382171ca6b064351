-- `turn::turn::turn_over` meets its contract: a refusal hands back what came, and an accepted call turns both tables over.
use mathlib.Core.Path.{ap, ◌∙◌}
use borrow.Author.Tests.{leb-true}
use native.Mathlib.Omega.{arith}
use Rattle.refusals.proofs.Tests.{answered-no, answered-yes}
use Rattle.refusals.proofs.Outcomes.{number-above, exit}
use Rattle.axis.specs.Limits.{most_edges, most_segments}
use Rattle.turn.specs.Answer.{turned_of}
use Rattle.turn.specs.Turning as T
use Rattle.turn.proofs.Calls.{Taken, took}
use Rattle.turn.proofs.turn.turn_over.Goals as goal

pub returns-in_err-turning_refusal : goal.returns-in_err-turning_refusal
unfolding T.turn_over
returns-in_err-turning_refusal c =
    let s = c.args in
    ap (turned_of s.axis s.segments) (exit _ _ c.from_residual.ensures.1)
    ∙ answered-no _ _ (T.beside s.axis s.segments) _ c.in_err-turning_refusal.ensures (number-above _)

pub turn_edges-requires : goal.turn_edges-requires
turn_edges-requires c =
    let a : Taken c.args.axis c.args.segments = took _ _ 0 c.in_ok-turning_refusal.ensures (omega arith) in
    (leb-true _ most_edges a.edges.short, a.edges.indexed)

pub turn_segments-requires : goal.turn_segments-requires
turn_segments-requires c =
    let a : Taken c.args.axis c.args.segments = took _ _ 0 c.in_ok-turning_refusal.ensures (omega arith) in
    (leb-true _ most_segments a.segments.short, leb-true _ most_edges a.edges.short, a.to_edges)

pub returns : goal.returns
unfolding T.turn_over
returns c =
    let s = c.args in
    answered-yes _ _ (T.beside s.axis s.segments) _ _ c.in_ok-turning_refusal.ensures (omega arith)
    (λ i. record { answer = 0; axis = c.turn_edges.ensures i; segments = c.turn_segments.ensures i })
