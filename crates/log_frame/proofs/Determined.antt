-- The outcomes of both calls as the code comes to them, and that each promise determines its outcome.
use Rattle.std.specs.Prelude.{Result}
use mathlib.Core.Path.{◌≡◌, refl, sym, ap, ◌∙◌}
use mathlib.Core.List.{List, ◌++◌}
use Prim.Native.Nat.{ℕ, ◌+◌, ◌*◌, ◌<◌}
use native.Mathlib.Omega.{arith}
use lib.ListN.{length, drop}
use lib.IntN.{ℤ}
use Rattle.refusals.specs.declared.order.Refusal.{Refusal}
use Rattle.refusals.specs.Refusal.{refusal}
use Rattle.refusals.proofs.Outcomes.{with-answer-one}
use Rattle.refusals.proofs.Tests.{answered-no, answered-yes}
use Rattle.words.specs.Word.{firsts}
use Rattle.log_digits.specs.Digits.{Bytes, byte_at}
use Rattle.log_frame.specs.Limits.{head_size, point_size}
use Rattle.log_frame.specs.Frame.{Frame, frame_of, frame_digits, frame_in, points_in, contours_in, original_in, current_in, mark_in}
use Rattle.log_frame.specs.Write.{WritesFrame, write_tests, written_by, frame_written, line_written}
use Rattle.log_frame.specs.Read.{ReadsFrame, read_tests, read_by, over, over_rooms, frame_read, rooms_read}
use Rattle.log_frame.specs.Steps.{PointsRead}
use Rattle.log_frame.specs.declared.read.Counts.{Counts}
use Rattle.log_frame.specs.Answer.{Written, written_of}
use Rattle.log_frame.specs.Answer.{ReadFrame, read_of}

-- ---- writing
module _ (f : Frame) (line : List ℕ) where
  -- a refusal k writes nothing
  pub writes-refused : (k : ℕ) → k ≡ refusal (write_tests f line) → 0 < k → Bytes f.marks → WritesFrame f line (written_by k 0) line
  unfolding frame_written line_written
  writes-refused k e h m = record { handed = answered-no k _ (λ (j : ℕ). written_by j 0) _ e h; leaves = answered-no k _ (λ _. line) _ e h; marked = m }

  -- a frame that is not refused
  pub writes-done :
      (digits : ℕ) {left : List ℕ} → refusal (write_tests f line) ≡ 0 → digits ≡ length (frame_digits f)
      → left ≡ frame_digits f ++ drop (length (frame_digits f)) line
      → Bytes f.marks → WritesFrame f line (written_by 0 digits) left
  unfolding frame_written line_written
  writes-done digits {left} z d l m = record {
    handed = answered-yes 0 _ (λ (j : ℕ). written_by j 0) _ _ (sym z) (omega arith) (ap (written_by 0) d);
    leaves = answered-yes 0 _ (λ _. line) _ _ (sym z) (omega arith) l;
    marked = m;
  }

-- ---- reading
module _ (line : List ℕ) (rooms : Frame) where
  -- a refusal k writes nothing
  pub reads-refused : (k : ℕ) → k ≡ refusal (read_tests line rooms) → 0 < k → ReadsFrame line rooms (read_by k 0 0) rooms
  unfolding frame_read rooms_read
  reads-refused k e h = record { handed = answered-no k _ (λ (j : ℕ). read_by j 0 0) _ e h; leaves = answered-no k _ (λ _. rooms) _ e h }

  -- the rooms with a good line's points and ends
  rooms-filled :
      {o c : List ℤ} {t es : List ℕ} (n k : ℕ) → n ≡ points_in line → k ≡ contours_in line
      → PointsRead line n rooms.originals rooms.currents rooms.marks o c t
      → es ≡ over (firsts (λ (i : ℕ). byte_at line (head_size + point_size * n + i)) k) rooms.ends → frame_of o c t es ≡ over_rooms (frame_in line) rooms
  unfolding frame_in over_rooms
  rooms-filled {o} {c} {t} {es} n k p q r e = λ j. record {
    originals = (r.originals ∙ ap (λ (m : ℕ). over (firsts (original_in line) m) rooms.originals) p) j;
    currents = (r.currents ∙ ap (λ (m : ℕ). over (firsts (current_in line) m) rooms.currents) p) j;
    marks = (r.marks ∙ ap (λ (m : ℕ). over (firsts (mark_in line) m) rooms.marks) p) j;
    ends = (e ∙ (λ l. over (firsts (λ (i : ℕ). byte_at line (head_size + point_size * p l + i)) (q l)) rooms.ends)) j;
  }

  -- a good line
  pub reads-done :
      {o c : List ℤ} {t es : List ℕ} (n k : ℕ) → refusal (read_tests line rooms) ≡ 0 → n ≡ points_in line → k ≡ contours_in line
      → PointsRead line n rooms.originals rooms.currents rooms.marks o c t
      → es ≡ over (firsts (λ (i : ℕ). byte_at line (head_size + point_size * n + i)) k) rooms.ends
      → ReadsFrame line rooms (read_by 0 n k) (frame_of o c t es)
  unfolding frame_read rooms_read
  reads-done n k z p q r e = record {
    handed = answered-yes 0 _ (λ (j : ℕ). read_by j 0 0) _ _ (sym z) (omega arith) (λ j. read_by 0 (p j) (q j));
    leaves = answered-yes 0 _ (λ _. rooms) _ _ (sym z) (omega arith) (rooms-filled n k p q r e);
  }

-- ---- two outcomes that a promise allows coincide
-- `write_frame`
pub writes-determined : (f : Frame) (line : List ℕ) {r s : Written} {left left' : List ℕ} → WritesFrame f line r left → WritesFrame f line s left'
    → (r ≡ s) × (left ≡ left')
writes-determined f line a b = (a.handed ∙ sym b.handed, a.leaves ∙ sym b.leaves)

-- `read_frame`
pub reads-determined : (line : List ℕ) (rooms : Frame) {r s : ReadFrame} {left left' : Frame} → ReadsFrame line rooms r left → ReadsFrame line rooms s left'
    → (r ≡ s) × (left ≡ left')
reads-determined line rooms a b = (a.handed ∙ sym b.handed, a.leaves ∙ sym b.leaves)

-- ---- what the calls hand back
-- the record tells a result from every other
pub written-one : (r s : Result ℕ Refusal) → written_of r ≡ written_of s → r ≡ s
written-one = with-answer-one written_of (λ (w : Written). w.answer) (λ x. refl) (λ r. refl) (λ x y e. ap (λ (w : Written). w.digits) e)

pub read-one : (r s : Result Counts Refusal) → read_of r ≡ read_of s → r ≡ s
read-one =
    with-answer-one read_of (λ (f : ReadFrame). f.answer) (λ x. refl) (λ r. refl)
    (λ x y e. λ j. record { points = (e j).points; contours = (e j).contours })

-- so two results that a promise allows coincide, with what is written beside them
-- `write_frame`
pub writes-determined-result : (f : Frame) (line : List ℕ) {r s : Result ℕ Refusal} {left left' : List ℕ}
    → WritesFrame f line (written_of r) left → WritesFrame f line (written_of s) left' → (r ≡ s) × (left ≡ left')
writes-determined-result f line {r} {s} a b = let e = writes-determined f line a b in (written-one r s e.0, e.1)

-- `read_frame`
pub reads-determined-result : (line : List ℕ) (rooms : Frame) {r s : Result Counts Refusal} {left left' : Frame}
    → ReadsFrame line rooms (read_of r) left → ReadsFrame line rooms (read_of s) left' → (r ≡ s) × (left ≡ left')
reads-determined-result line rooms {r} {s} a b = let e = reads-determined line rooms a b in (read-one r s e.0, e.1)
