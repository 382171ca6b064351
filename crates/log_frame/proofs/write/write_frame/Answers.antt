-- `log_frame::write::write_frame` meets its contract: what is not refused is written, its head, its points and its ends.
use native.Mathlib.Omega.{arith}
use mathlib.Core.Path.{◌≡◌, sym, ap, subst, ◌∙◌}
use mathlib.Core.List.{◌∷◌, []}
use lib.ListN.{length}
use Prim.Native.Nat.{ℕ}
use Rattle.std.specs.Prelude.{Result}
use Rattle.refusals.specs.declared.order.Refusal.{Refusal}
use Rattle.refusals.specs.Refusal.{refusal}
use Rattle.refusals.proofs.Outcomes.{number-above, exit}
use Rattle.log_digits.specs.Digits.{Bytes}
use Rattle.log_digits.proofs.Writing.{written-length}
use Rattle.log_frame.specs.Limits.{head_size}
use Rattle.log_frame.specs.Frame.{Frame, frame_of, kind_byte, points_bytes}
use Rattle.log_frame.specs.Write.{write_tests, WritesFrame}
use Rattle.log_frame.specs.Answer.{written_of}
use Rattle.log_frame.specs.Steps.{PointsFit, Writable}
use Rattle.log_frame.proofs.Tested.{writable}
use Rattle.log_frame.proofs.Composed.{points-length, frame-length, frame-written}
use Rattle.log_frame.proofs.Determined.{writes-refused, writes-done}
use Rattle.log_frame.proofs.write.write_frame.Goals as goal

pub returns-in_err-write_refusal : goal.returns-in_err-write_refusal
returns-in_err-write_refusal c =
    let frame : Frame = frame_of c.args.originals.now c.args.currents.now c.args.marks.now c.args.ends.now in
    let marked : Bytes c.args.marks.now = λ i. (c.shared_slice_known-1.given i).fits in
    subst (λ (o : Result ℕ Refusal). WritesFrame frame c.args.line.now (written_of o) c.args.line.now) (sym (exit _ _ c.from_residual.ensures.1))
    (writes-refused frame c.args.line.now _ c.in_err-write_refusal.ensures (number-above _) marked)

pub put_head-requires : goal.put_head-requires
put_head-requires c =
    let frame : Frame = frame_of c.args.originals.now c.args.currents.now c.args.marks.now c.args.ends.now in
    let not-refused : refusal (write_tests frame c.args.line.now) ≡ 0 = sym c.in_ok-write_refusal.ensures in
    let accepted : Writable frame (length c.args.line.now) = writable frame c.args.line.now not-refused in
    let w = accepted in ((w.few-points, w.few_contours), omega (arith, w.room))

pub put_points-requires : goal.put_points-requires
put_points-requires c =
    let frame : Frame = frame_of c.args.originals.now c.args.currents.now c.args.marks.now c.args.ends.now in
    let not-refused : refusal (write_tests frame c.args.line.now) ≡ 0 = sym c.in_ok-write_refusal.ensures in
    let accepted : Writable frame (length c.args.line.now) = writable frame c.args.line.now not-refused in
    let headed : length c.put_head.new.line ≡ length c.args.line.now = let a = c.args in
    ap length c.put_head.ensures
    ∙ written-length a.line.now (kind_byte ∷ length a.originals.now ∷ length a.ends.now ∷ []) 0 (omega (arith, accepted.room)) in
    let a = c.args in
    subst (PointsFit a.originals.now a.currents.now a.marks.now) (sym headed) accepted.points

pub put_ends-requires : goal.put_ends-requires
put_ends-requires c =
    let frame : Frame = frame_of c.args.originals.now c.args.currents.now c.args.marks.now c.args.ends.now in
    let not-refused : refusal (write_tests frame c.args.line.now) ≡ 0 = sym c.in_ok-write_refusal.ensures in
    let accepted : Writable frame (length c.args.line.now) = writable frame c.args.line.now not-refused in
    let headed : length c.put_head.new.line ≡ length c.args.line.now = let a = c.args in
    ap length c.put_head.ensures
    ∙ written-length a.line.now (kind_byte ∷ length a.originals.now ∷ length a.ends.now ∷ []) 0 (omega (arith, accepted.room)) in
    let pointed : length c.put_points.new.line ≡ length c.args.line.now = let a = c.args in
    let n = length a.originals.now in
    ap length c.put_points.ensures
    ∙ written-length c.put_head.new.line (points_bytes a.originals.now a.currents.now a.marks.now n) head_size
    (omega (arith, headed, points-length a.originals.now a.currents.now a.marks.now n, accepted.room))
    ∙ headed in
    let w = accepted in
    (omega (arith, w.room, pointed), w.ends)

pub overflow_mul-result : goal.overflow_mul-result
overflow_mul-result c =
    let frame : Frame = frame_of c.args.originals.now c.args.currents.now c.args.marks.now c.args.ends.now in
    let not-refused : refusal (write_tests frame c.args.line.now) ≡ 0 = sym c.in_ok-write_refusal.ensures in
    let accepted : Writable frame (length c.args.line.now) = writable frame c.args.line.now not-refused in
    let w = accepted in omega (arith, w.few-points, w.few_contours)

pub returns : goal.returns
returns c =
    let frame : Frame = frame_of c.args.originals.now c.args.currents.now c.args.marks.now c.args.ends.now in
    let marked : Bytes c.args.marks.now = λ i. (c.shared_slice_known-1.given i).fits in
    let not-refused : refusal (write_tests frame c.args.line.now) ≡ 0 = sym c.in_ok-write_refusal.ensures in
    let accepted : Writable frame (length c.args.line.now) = writable frame c.args.line.now not-refused in
    writes-done frame c.args.line.now _ not-refused (sym (frame-length frame))
    (frame-written frame c.args.line.now accepted c.put_head.ensures c.put_points.ensures c.put_ends.ensures)
    marked
