-- `log_frame_words::lend_read` meets its contract.
use mathlib.Core.Path.{sym, subst}
use Prim.Native.Nat.{ℕ}
use Rattle.refusals.proofs.Outcomes.{number-above, exit-answer}
use Rattle.words_call.proofs.Lents.{refused}
use Rattle.log_frame.specs.Frame.{Frame, frame_of}
use Rattle.log_frame_words.specs.Lent.{ReadsLent}
use Rattle.log_frame_words.proofs.Lending.{granted, few-counted, reads-lent}
use Rattle.log_frame_words.proofs.lend_read.Goals as goal

pub returns-in_err-counts : goal.returns-in_err-counts
returns-in_err-counts c =
    let rooms : Frame = frame_of c.args.originals.now c.args.currents.now c.args.marks.now c.args.ends.now in
    let left : Frame = let l = c.read_frame.new in frame_of l.originals l.currents l.marks l.ends in
    subst (λ (k : ℕ). ReadsLent c.args.line.now rooms c.args.points.now c.args.contours.now k (left, (c.args.points.now, c.args.contours.now)))
    (sym (exit-answer _ _ c.from_residual.ensures.1))
    (reads-lent c.args.line.now rooms c.in_err-counts.ensures c.args.points.now c.args.contours.now (refused (number-above _)))

pub wide-requires : goal.wide-requires
wide-requires c = (few-counted c.args.line.now (frame_of c.args.originals.now c.args.currents.now c.args.marks.now c.args.ends.now) c.in_ok-counts.ensures).1

pub wide-requires-2 : goal.wide-requires-2
wide-requires-2 c = (few-counted c.args.line.now (frame_of c.args.originals.now c.args.currents.now c.args.marks.now c.args.ends.now) c.in_ok-counts.ensures).0

pub returns : goal.returns
returns c = reads-lent c.args.line.now (frame_of c.args.originals.now c.args.currents.now c.args.marks.now c.args.ends.now) c.in_ok-counts.ensures c.args.points.now c.args.contours.now
    (granted {A = ℕ × ℕ} (λ i. (c.wide-2.ensures i, c.wide.ensures i)))
