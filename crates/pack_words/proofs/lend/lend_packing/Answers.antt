-- `pack_words::lend::lend_packing` meets its contract.
use native.Mathlib.Omega.{arith}
use mir.Syntax.{w32}
use mathlib.Core.Path.{◌∙◌}
use Rattle.refusals.proofs.Outcomes.{number-above, exit}
use Rattle.words.proofs.Fields.{kept}
use Rattle.words_call.proofs.Lents.{refused-before}
use Rattle.pack_words.proofs.Lending.{few-both, refuses, pack-ready, packs}
use Rattle.pack_words.proofs.lend.lend_packing.Goals as goal

pub returns-in_err-turning_front : goal.returns-in_err-turning_front
returns-in_err-turning_front c = rw (exit _ _ c.from_residual.ensures.1) (refused-before c.in_err-turning_front.ensures (number-above _))

pub packing_refusal-requires : goal.packing_refusal-requires
packing_refusal-requires c =
    let a = c.args in
    few-both a.segments.now a.edges.now a.count.now c.in_ok-turning_front.ensures (omega arith)

pub returns-in_err-packing_refusal : goal.returns-in_err-packing_refusal
returns-in_err-packing_refusal c =
    let a = c.args in
    rw (exit _ _ c.from_residual-in_err-packing_refusal.ensures.1)
    (refuses a.segments.now a.edges.now a.count.now c.in_ok-turning_front.ensures (omega arith) c.in_err-packing_refusal.ensures (number-above _))

pub pack_in-kept-requires : goal.pack_in-kept-requires
pack_in-kept-requires c =
    let a = c.args in
    pack-ready a.segments.now a.edges.now a.count.now c.in_ok-turning_front.ensures (omega arith) c.in_ok-packing_refusal.ensures (omega arith)

pub returns : goal.returns
returns c =
    let a = c.args in
    packs a.segments.now a.edges.now a.count.now c.in_ok-turning_front.ensures (omega arith) c.in_ok-packing_refusal.ensures (omega arith)
    c.pack_in-kept.ensures
    (kept w32 c.count_word.result c.count_word.type_inv ∙ c.count_word.ensures)
