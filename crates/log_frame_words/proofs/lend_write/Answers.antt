-- `log_frame_words::lend_write` meets its contract.
use mathlib.Core.Path.{sym, subst}
use Prim.Native.Nat.{ℕ}
use Rattle.refusals.proofs.Outcomes.{number-above, exit-answer}
use Rattle.words_call.proofs.Lents.{refused}
use Rattle.log_frame.specs.Frame.{Frame, frame_of}
use Rattle.log_frame_words.specs.Lent.{WritesLent}
use Rattle.log_frame_words.proofs.Lending.{granted, few-digits, writes-lent}
use Rattle.log_frame_words.proofs.lend_write.Goals as goal

pub returns-in_err-write_frame : goal.returns-in_err-write_frame
returns-in_err-write_frame c =
    let f : Frame = frame_of c.args.originals.now c.args.currents.now c.args.marks.now c.args.ends.now in
    subst (λ (k : ℕ). WritesLent f c.args.line.now c.args.digits.now k (c.write_frame.new.line, c.args.digits.now)) (sym (exit-answer _ _ c.from_residual.ensures.1))
    (writes-lent f c.args.line.now c.in_err-write_frame.ensures c.args.digits.now (refused (number-above _)))

pub wide-requires : goal.wide-requires
wide-requires c = few-digits (frame_of c.args.originals.now c.args.currents.now c.args.marks.now c.args.ends.now) c.args.line.now c.in_ok-write_frame.ensures

pub returns : goal.returns
returns c = writes-lent (frame_of c.args.originals.now c.args.currents.now c.args.marks.now c.args.ends.now) c.args.line.now c.in_ok-write_frame.ensures c.args.digits.now
    (granted c.wide.ensures)
