-- `log_frame::read::read_frame` meets its contract: a good line is read, its points and its ends.
use native.Mathlib.Omega.{arith}
use mathlib.Core.Path.{◌≡◌, sym, subst}
use Prim.Native.Nat.{◌≤◌}
use lib.ListN.{length}
use Rattle.std.specs.Prelude.{Result}
use Rattle.refusals.specs.declared.order.Refusal.{Refusal}
use Rattle.refusals.specs.Refusal.{refusal}
use Rattle.refusals.proofs.Outcomes.{number-above, exit}
use Rattle.log_digits.specs.Digits.{digits_for}
use Rattle.log_frame.specs.Limits.{most_counted, frame_size}
use Rattle.log_frame.specs.Frame.{Frame, frame_of, points_in, contours_in}
use Rattle.log_frame.specs.Read.{read_tests, ReadsFrame}
use Rattle.log_frame.specs.declared.read.Counts.{Counts}
use Rattle.log_frame.specs.Answer.{read_of}
use Rattle.log_frame.proofs.Tested.{Readable, readable, good_length, few-points-in, few-contours-in}
use Rattle.log_frame.proofs.Determined.{reads-refused, reads-done}
use Rattle.log_frame.proofs.read.read_frame.Goals as goal

pub returns-in_err-read_refusal : goal.returns-in_err-read_refusal
returns-in_err-read_refusal c =
    let rooms : Frame = frame_of c.args.originals.now c.args.currents.now c.args.marks.now c.args.ends.now in
    subst (λ (o : Result Counts Refusal). ReadsFrame c.args.line.now rooms (read_of o) rooms) (sym (exit _ _ c.from_residual.ensures.1))
    (reads-refused c.args.line.now rooms _ c.in_err-read_refusal.ensures (number-above _))

pub points_in-points-requires : goal.points_in-points-requires
points_in-points-requires c =
    let rooms : Frame = frame_of c.args.originals.now c.args.currents.now c.args.marks.now c.args.ends.now in
    let not-refused : refusal (read_tests c.args.line.now rooms) ≡ 0 = sym c.in_ok-read_refusal.ensures in
    let accepted : Readable c.args.line.now rooms = readable c.args.line.now rooms not-refused in
    let long : length c.args.line.now ≡ digits_for (frame_size (points_in c.args.line.now) (contours_in c.args.line.now)) = good_length c.args.line.now accepted.good in
    omega (arith, long)

pub contours_in-contours-requires : goal.contours_in-contours-requires
contours_in-contours-requires c =
    let rooms : Frame = frame_of c.args.originals.now c.args.currents.now c.args.marks.now c.args.ends.now in
    let not-refused : refusal (read_tests c.args.line.now rooms) ≡ 0 = sym c.in_ok-read_refusal.ensures in
    let accepted : Readable c.args.line.now rooms = readable c.args.line.now rooms not-refused in
    let long : length c.args.line.now ≡ digits_for (frame_size (points_in c.args.line.now) (contours_in c.args.line.now)) = good_length c.args.line.now accepted.good in
    omega (arith, long)

pub read_points-requires : goal.read_points-requires
read_points-requires c =
    let rooms : Frame = frame_of c.args.originals.now c.args.currents.now c.args.marks.now c.args.ends.now in
    let not-refused : refusal (read_tests c.args.line.now rooms) ≡ 0 = sym c.in_ok-read_refusal.ensures in
    let accepted : Readable c.args.line.now rooms = readable c.args.line.now rooms not-refused in
    let long : length c.args.line.now ≡ digits_for (frame_size (points_in c.args.line.now) (contours_in c.args.line.now)) = good_length c.args.line.now accepted.good in
    let counted : c.points_in-points.result ≤ most_counted = omega (arith, c.points_in-points.ensures, few-points-in c.args.line.now) in
    let r = accepted in
    let n = counted in
    (omega (arith, long, c.points_in-points.ensures), (omega (arith, n, r.originals), (omega (arith, n, r.currents), omega (arith, n, r.marks))))

pub overflow_mul-points : goal.overflow_mul-points
overflow_mul-points c =
    let counted : c.points_in-points.result ≤ most_counted = omega (arith, c.points_in-points.ensures, few-points-in c.args.line.now) in
    omega (arith, counted)

pub overflow_add-points : goal.overflow_add-points
overflow_add-points c =
    let counted : c.points_in-points.result ≤ most_counted = omega (arith, c.points_in-points.ensures, few-points-in c.args.line.now) in
    omega (arith, counted)

pub read_ends-requires : goal.read_ends-requires
read_ends-requires c =
    let rooms : Frame = frame_of c.args.originals.now c.args.currents.now c.args.marks.now c.args.ends.now in
    let not-refused : refusal (read_tests c.args.line.now rooms) ≡ 0 = sym c.in_ok-read_refusal.ensures in
    let accepted : Readable c.args.line.now rooms = readable c.args.line.now rooms not-refused in
    let long : length c.args.line.now ≡ digits_for (frame_size (points_in c.args.line.now) (contours_in c.args.line.now)) = good_length c.args.line.now accepted.good in (
      omega (arith, long, c.points_in-points.ensures, c.contours_in-contours.ensures),
      omega
          (arith, c.contours_in-contours.ensures, few-contours-in c.args.line.now, accepted.ends),
    )

pub returns : goal.returns
returns c =
    let rooms : Frame = frame_of c.args.originals.now c.args.currents.now c.args.marks.now c.args.ends.now in
    let not-refused : refusal (read_tests c.args.line.now rooms) ≡ 0 = sym c.in_ok-read_refusal.ensures in
    reads-done c.args.line.now rooms _ _ not-refused c.points_in-points.ensures c.contours_in-contours.ensures c.read_points.ensures
    c.read_ends.ensures
