-- `mend_words::lend::lend_mending` meets its contract.
use native.Mathlib.Omega.{arith}
use mathlib.Core.Path.{◌∙◌}
use Rattle.refusals.proofs.Outcomes.{number-above, exit}
use Rattle.words_call.proofs.Lents.{refused-before}
use Rattle.mend_words.proofs.Lending.{room-refuses, front-is, table-refuses, ready, mends}
use Rattle.mend_words.proofs.lend.lend_mending.Goals as goal

pub returns-then-altered : goal.returns-then-altered
returns-then-altered c = refused-before (room-refuses _ _ _ c.if-altered.true) (omega arith)

pub returns-in_err-turning_front : goal.returns-in_err-turning_front
returns-in_err-turning_front c =
    rw (exit _ _ c.from_residual.ensures.1) (refused-before (c.in_err-turning_front.ensures ∙ front-is _ _ _ c.if-altered.false) (number-above _))

pub returns-in_err-mend_refusal : goal.returns-in_err-mend_refusal
returns-in_err-mend_refusal c =
    rw (exit _ _ c.from_residual-in_err-mend_refusal.ensures.1)
    (table-refuses _ _ _ _ c.if-altered.false c.in_ok-turning_front.ensures (omega arith) c.in_err-mend_refusal.ensures (number-above _))

pub mend_in-requires : goal.mend_in-requires
mend_in-requires c =
    let a = c.args in
    record {
      whole = ready a.segments.now a.edges.now a.altered.now a.count.now c.if-altered.false c.in_ok-turning_front.ensures (omega arith)
          c.in_ok-mend_refusal.ensures (omega arith);
      altered_len = c.if-altered.false;
    }

pub returns : goal.returns
returns c =
    mends _ _ _ _ c.if-altered.false c.in_ok-turning_front.ensures (omega arith) c.in_ok-mend_refusal.ensures (omega arith) c.mend_in.ensures
