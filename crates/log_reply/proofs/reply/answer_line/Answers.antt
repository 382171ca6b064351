-- `log_reply::reply::answer_line` meets its contract.
use native.Mathlib.Omega.{arith}
use mathlib.Core.Path.{refl, sym, ap, ◌∙◌}
use Prim.Native.Nat.{◌≤◌}
use lib.ListN.{replicate, length-take}
use lib.IntN.{pos}
use lib.Seq.{length-take-le}
use Rattle.refusals.proofs.Outcomes.{number-above}
use Rattle.log_frame.specs.Limits.{most_counted}
use Rattle.log_frame.specs.Frame.{frame_of}
use Rattle.log_text.specs.Answer.{refused_bytes}
use Rattle.log_text.proofs.Jobs.{puts-same}
use Rattle.log_reply.proofs.Reading.{Rooms, read-bad, points-few, contours-few, rooms-kept, read-good}
use Rattle.log_reply.proofs.reply.answer_line.Goals as goal

-- the rooms as they are made
abbrev rooms-made : Rooms (frame_of (replicate most_counted (pos 0)) (replicate most_counted (pos 0)) (replicate most_counted 0) (replicate most_counted 0))
rooms-made = record { originals = refl; currents = refl; marks = refl; ends = refl }

pub returns-in-Err : goal.returns-in-Err
returns-in-Err c =
    puts-same (ap refused_bytes c.from.ensures ∙ read-bad c.args.line.now c.in-Err.ensures rooms-made (number-above c.in-Err.refusal)) c.put_refusal.ensures

pub slice_bounds-originals-end : goal.slice_bounds-originals-end
slice_bounds-originals-end c =
    let few-points : c.in-Ok.counts.points ≤ most_counted = points-few _ c.in-Ok.ensures rooms-made (omega arith) in
    let kept : Rooms (let l = c.read_frame-read.new in frame_of l.originals l.currents l.marks l.ends) = rooms-kept _ c.in-Ok.ensures rooms-made (omega arith) in
    omega (arith, few-points, kept.originals)

pub slice_bounds-answer_job-end : goal.slice_bounds-answer_job-end
slice_bounds-answer_job-end c =
    let few-points : c.in-Ok.counts.points ≤ most_counted = points-few _ c.in-Ok.ensures rooms-made (omega arith) in
    let kept : Rooms (let l = c.read_frame-read.new in frame_of l.originals l.currents l.marks l.ends) = rooms-kept _ c.in-Ok.ensures rooms-made (omega arith) in
    sym (length-take-le _ _ (omega (arith, few-points, kept.originals)))

pub slice_bounds-currents-end : goal.slice_bounds-currents-end
slice_bounds-currents-end c =
    let few-points : c.in-Ok.counts.points ≤ most_counted = points-few _ c.in-Ok.ensures rooms-made (omega arith) in
    let kept : Rooms (let l = c.read_frame-read.new in frame_of l.originals l.currents l.marks l.ends) = rooms-kept _ c.in-Ok.ensures rooms-made (omega arith) in
    omega (arith, few-points, kept.currents)

pub slice_bounds-answer_job-end-2 : goal.slice_bounds-answer_job-end-2
slice_bounds-answer_job-end-2 c =
    let few-points : c.in-Ok.counts.points ≤ most_counted = points-few _ c.in-Ok.ensures rooms-made (omega arith) in
    let kept : Rooms (let l = c.read_frame-read.new in frame_of l.originals l.currents l.marks l.ends) = rooms-kept _ c.in-Ok.ensures rooms-made (omega arith) in
    sym (length-take-le _ _ (omega (arith, few-points, kept.currents)))

pub slice_bounds-marks-end : goal.slice_bounds-marks-end
slice_bounds-marks-end c =
    let few-points : c.in-Ok.counts.points ≤ most_counted = points-few _ c.in-Ok.ensures rooms-made (omega arith) in
    let kept : Rooms (let l = c.read_frame-read.new in frame_of l.originals l.currents l.marks l.ends) = rooms-kept _ c.in-Ok.ensures rooms-made (omega arith) in
    omega (arith, few-points, kept.marks)

pub slice_bounds-answer_job-end-3 : goal.slice_bounds-answer_job-end-3
slice_bounds-answer_job-end-3 c =
    let few-points : c.in-Ok.counts.points ≤ most_counted = points-few _ c.in-Ok.ensures rooms-made (omega arith) in
    let kept : Rooms (let l = c.read_frame-read.new in frame_of l.originals l.currents l.marks l.ends) = rooms-kept _ c.in-Ok.ensures rooms-made (omega arith) in
    sym (length-take-le _ _ (omega (arith, few-points, kept.marks)))

pub slice_bounds-ends-end : goal.slice_bounds-ends-end
slice_bounds-ends-end c =
    let few_contours : c.in-Ok.counts.contours ≤ most_counted = contours-few _ c.in-Ok.ensures rooms-made (omega arith) in
    let kept : Rooms (let l = c.read_frame-read.new in frame_of l.originals l.currents l.marks l.ends) = rooms-kept _ c.in-Ok.ensures rooms-made (omega arith) in
    omega (arith, few_contours, kept.ends)

pub slice_bounds-answer_job-end-4 : goal.slice_bounds-answer_job-end-4
slice_bounds-answer_job-end-4 c =
    let few_contours : c.in-Ok.counts.contours ≤ most_counted = contours-few _ c.in-Ok.ensures rooms-made (omega arith) in
    let kept : Rooms (let l = c.read_frame-read.new in frame_of l.originals l.currents l.marks l.ends) = rooms-kept _ c.in-Ok.ensures rooms-made (omega arith) in
    sym (length-take-le _ _ (omega (arith, few_contours, kept.ends)))

pub answer_job-requires : goal.answer_job-requires
answer_job-requires c =
    let few-points : c.in-Ok.counts.points ≤ most_counted = points-few _ c.in-Ok.ensures rooms-made (omega arith) in (
      simp length-take (omega (arith, few-points)),
      c.requires,
    )

pub returns : goal.returns
returns c = puts-same (read-good c.args.line.now
    c.in-Ok.ensures rooms-made
    (omega arith)) c.answer_job.ensures
