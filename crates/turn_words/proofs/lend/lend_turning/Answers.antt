-- `turn_words::lend::lend_turning` meets its contract.
use native.Mathlib.Omega.{arith}
use Rattle.refusals.proofs.Outcomes.{number-above, exit-answer}
use Rattle.words_call.proofs.Lents.{refused-before}
use Rattle.turn_words.proofs.Lending.{refuses, segments-ready, edges-ready, turns}
use Rattle.turn_words.proofs.lend.lend_turning.Goals as goal

pub returns-in_err-turning_front : goal.returns-in_err-turning_front
returns-in_err-turning_front c = rw (exit-answer _ _ c.from_residual.ensures.1) (refused-before c.in_err-turning_front.ensures (number-above _))

pub returns-in_err-turn_refusal : goal.returns-in_err-turn_refusal
returns-in_err-turn_refusal c =
    let a = c.args in
    rw (exit-answer _ _ c.from_residual-in_err-turn_refusal.ensures.1)
    (refuses a.segments.now a.edges.now c.in_ok-turning_front.ensures (omega arith) c.in_err-turn_refusal.ensures (number-above _))

pub turn_segments_in-requires : goal.turn_segments_in-requires
turn_segments_in-requires c =
    let a = c.args in
    segments-ready a.segments.now a.edges.now c.in_ok-turning_front.ensures (omega arith) c.in_ok-turn_refusal.ensures (omega arith)

pub turn_edges_in-requires : goal.turn_edges_in-requires
turn_edges_in-requires c =
    let a = c.args in
    edges-ready a.segments.now a.edges.now c.in_ok-turning_front.ensures (omega arith) c.in_ok-turn_refusal.ensures (omega arith)

pub returns : goal.returns
returns c =
    let a = c.args in
    turns a.segments.now a.edges.now c.in_ok-turning_front.ensures (omega arith) c.in_ok-turn_refusal.ensures (omega arith)
    c.turn_segments_in.ensures
    c.turn_edges_in.ensures
