-- Each call undoes the other, for every outcome that the promises allow: writing a job and reading it gives the job, and reading a good line and writing it
-- gives the line.
use mathlib.Core.Path.{◌≡◌, refl, sym, ap, subst, ◌∙◌}
use mathlib.Core.Bool.{true}
use mathlib.Core.List.{List, ◌++◌}
use Prim.Native.Nat.{ℕ, ◌+◌, ◌*◌, ◌≤◌, ◌<◌}
use native.Mathlib.Omega.{arith}
use borrow.Author.Tests.{le-leb, eq-eqb}
use lib.ListN.{length, take, drop}
use lib.Seq.{take_at}
use lib.IntN.{pos}
use mir.Syntax.{w16}
use mir.ValLaws.{to_z-Fits}
use Rattle.signed.proofs.Signed.{signed, range}
use Rattle.refusals.specs.Refusal.{refusal}
use Rattle.refusals.proofs.Tests.{no-refusal}
use Rattle.refusals.proofs.Answers.{none-refused, worked}
use Rattle.words.specs.Word.{firsts}
use Rattle.words.proofs.Tables.{firsts-length}
use Rattle.words_shape.specs.Shape.{is_in, short}
use Rattle.words_shape.proofs.Shapes.{in_range}
use Rattle.log_digits.specs.Digits.{number_of}
use Rattle.log_digits.proofs.Lines.{byte_small}
use Rattle.log_frame.specs.Limits.{frame_size}
use Rattle.log_frame.specs.Frame.{Frame, frame_of, frame_digits, good_line, frame_in, points_in, contours_in, end_place, original_in, current_in, mark_in, end_in}
use Rattle.log_frame.specs.Write.{WritesFrame, write_tests, written_by, frame_written, line_written, room_for}
use Rattle.log_frame.specs.Read.{ReadsFrame, read_tests, read_by, are_rooms, over, over_rooms, frame_read, rooms_read}
use Rattle.log_frame.specs.Answer.{Written}
use Rattle.log_frame.specs.Answer.{ReadFrame}
use Rattle.log_frame.proofs.Tested.{writable, readable, good_length, few-points-in, few-contours-in, room-digits, ends-pass, numbers-pass}
use Rattle.log_frame_back.specs.Back.{read_lists}
use Rattle.log_frame_back.proofs.RoundTrip.{
  firsts_at,
  points-is,
  contours-is,
  written-good,
  written_read,
  originals_length,
  ends-length,
  end_read,
  read-written,
}

-- ---- answer 0
-- of writing: nothing was refused, and the line begins with the digits
module _ {f : Frame} {line : List ℕ} {r : Written} {left : List ℕ} (w : WritesFrame f line r left) where
  not-refused : r.answer ≡ 0 → refusal (write_tests f line) ≡ 0
  unfolding frame_written
  not-refused e =
      none-refused (λ (k : ℕ). written_by k 0) (written_by 0 (length (frame_digits f))) (λ (x : Written). x.answer) (λ j. refl) _
      (sym (ap (λ (x : Written). x.answer) w.handed) ∙ e)

  hands : refusal (write_tests f line) ≡ 0 → r ≡ written_by 0 (length (frame_digits f))
  unfolding frame_written
  hands z = w.handed ∙ worked (λ (k : ℕ). written_by k 0) (written_by 0 (length (frame_digits f))) _ z

  leaves : refusal (write_tests f line) ≡ 0 → left ≡ frame_digits f ++ drop (length (frame_digits f)) line
  unfolding line_written
  leaves z = w.leaves ∙ worked (λ _. line) (frame_digits f ++ drop (length (frame_digits f)) line) _ z

  -- so what stands at its beginning, as long as was handed back, is those digits
  taken : r.answer ≡ 0 → take r.digits left ≡ frame_digits f
  taken e =
      let z = not-refused e in
      let digits = frame_digits f in
      (λ i. take (hands z i).digits (leaves z i)) ∙ take_at digits (drop (length digits) line) (length digits) refl

  -- which are a good line, and hold the job
  pub line-good : r.answer ≡ 0 → good_line (take r.digits left) ≡ true
  line-good e = ap good_line (taken e) ∙ written-good f _ (writable f line (not-refused e)) w.marked

  pub line-holds : r.answer ≡ 0 → frame_in (take r.digits left) ≡ f
  line-holds e = ap frame_in (taken e) ∙ written_read f _ (writable f line (not-refused e)) w.marked

-- of reading: nothing was refused, and the rooms begin with the frame
module _ {line : List ℕ} {rooms : Frame} {r : ReadFrame} {left : Frame} (w : ReadsFrame line rooms r left) where
  read-not-refused : r.answer ≡ 0 → refusal (read_tests line rooms) ≡ 0
  unfolding frame_read
  read-not-refused e =
      none-refused (λ (k : ℕ). read_by k 0 0) (read_by 0 (points_in line) (contours_in line)) (λ (x : ReadFrame). x.answer) (λ j. refl) _
      (sym (ap (λ (x : ReadFrame). x.answer) w.handed) ∙ e)

  read-hands : refusal (read_tests line rooms) ≡ 0 → r ≡ read_by 0 (points_in line) (contours_in line)
  unfolding frame_read
  read-hands z = w.handed ∙ worked (λ (k : ℕ). read_by k 0 0) (read_by 0 (points_in line) (contours_in line)) _ z

  read-leaves : refusal (read_tests line rooms) ≡ 0 → left ≡ over_rooms (frame_in line) rooms
  unfolding rooms_read
  read-leaves z = w.leaves ∙ worked (λ _. rooms) (over_rooms (frame_in line) rooms) _ z

-- ---- writing a job and reading it gives the job: its counts, and its lists at the rooms' beginnings
pub job-back :
    (f : Frame) (lent : List ℕ) (rooms : Frame) {r : Written} {left : List ℕ} {s : ReadFrame} {now : Frame}
    → are_rooms (length rooms.originals) (length rooms.currents) (length rooms.marks) (length rooms.ends) ≡ true → WritesFrame f lent r left
    → r.answer ≡ 0
    → ReadsFrame (take r.digits left) rooms s now → (s ≡ read_by 0 (length f.originals) (length f.ends)) × (now ≡ over_rooms f rooms)
job-back f lent rooms {r} {left} {s} {now} roomy w e read =
    let line = take r.digits left in
    let fit = writable f lent (not-refused w e) in
    let none = no-refusal (read_tests line rooms) (roomy, (line-good w e, refl)) in
    let counts : (points_in line ≡ length f.originals) × (contours_in line ≡ length f.ends) =
    (ap points_in (taken w e) ∙ points-is f _ fit w.marked, ap contours_in (taken w e) ∙ contours-is f _ fit w.marked) in
    (read-hands read none ∙ (λ i. read_by 0 (counts.0 i) (counts.1 i)), read-leaves read none ∙ ap (λ (x : Frame). over_rooms x rooms) (line-holds w e))

-- ---- what a good line holds is not refused, where the lent line is long enough
number_short : (h l : ℕ) → h < 256 → l < 256 → is_in short (number_of h l) ≡ true
unfolding number_of
number_short h l a b =
    let k = to_z-Fits w16 (256 * h + l) (record { fits = omega arith }) in
    in_range short (number_of h l) (omega (arith, signed, range k)) (omega (arith, signed, range k))

module _ (line : List ℕ) (good : good_line line ≡ true) where
  held_fits : (lent : List ℕ) → length line ≤ length lent → refusal (write_tests (frame_in line) lent) ≡ 0
  unfolding frame_in
  held_fits lent long =
      let n = points_in line in
      let k = contours_in line in
      let counted = originals_length line good in
      let size = good_length line good in
      let room : room_for (length (frame_in line).originals) (length (frame_in line).ends) (length lent) ≡ true =
      (λ i. room_for (counted i) (ends-length line good i) (length lent))
      ∙ sym (room-digits n k (length lent) (few-points-in line) (few-contours-in line) (frame_size n k) refl)
      ∙ le-leb (2 * frame_size n k) (length lent) (omega (arith, size)) in
      no-refusal (write_tests (frame_in line) lent) (
        eq-eqb _ _ (firsts-length (current_in line) n ∙ sym (firsts-length (original_in line) n)),
        (
          eq-eqb _ _ (firsts-length _ n ∙ sym (firsts-length (original_in line) n)),
          (
            room,
            (
              ends-pass (frame_in line).ends (λ i h. let j : i < k = omega (arith, ends-length line good) in omega
                  (arith, end_read line good i j, byte_small line (end_place line i))),
              (
                numbers-pass (frame_in line).originals (λ i h. let j : i < n = omega (arith, counted) in ap (is_in short)
                    (firsts_at (original_in line) (pos 0) n i j) ∙ number_short _ _ (byte_small line _) (byte_small line _)),
                (
                  numbers-pass (frame_in line).currents (λ i h. let j : i < n = omega (arith, firsts-length (current_in line) n) in ap (is_in short)
                      (firsts_at (current_in line) (pos 0) n i j) ∙ number_short _ _ (byte_small line _) (byte_small line _)),
                  refl,
                ),
              ),
            ),
          ),
        ),
      )

-- ---- reading a good line and writing what was read gives the line, and keeps what stands behind it
-- the beginning of a room that a list stands in
front_of : {A : Type 0} (f : ℕ → A) (n : ℕ) (room : List A) → take n (over (firsts f n) room) ≡ firsts f n
unfolding over
front_of f n room = take_at (firsts f n) (drop (length (firsts f n)) room) n (firsts-length f n)

pub line-back :
    (line : List ℕ) (rooms : Frame) (lent : List ℕ) {s : ReadFrame} {now : Frame} {r : Written} {left : List ℕ} → ReadsFrame line rooms s now → s.answer ≡ 0
    → length line ≤ length lent
    → WritesFrame (read_lists s now) lent r left → (r ≡ written_by 0 (length line)) × (left ≡ line ++ drop (length line) lent)
unfolding over_rooms frame_in
line-back line rooms lent {s} {now} {r} {left} read e long w =
    let z = read-not-refused read e in
    let good = (readable line rooms z).good in
    let lists : read_lists s now ≡ frame_in line = (λ i. read_lists (read-hands read z i) (read-leaves read z i)) ∙ fronts in
    let again = subst (λ (x : Frame). WritesFrame x lent r left) lists w in
    let none = held_fits line good lent long in
    let back = read-written line good in
    (hands again none ∙ ap (λ (l : List ℕ). written_by 0 (length l)) back, leaves again none ∙ ap (λ (l : List ℕ). l ++ drop (length l) lent) back)
  where
    fronts : read_lists (read_by 0 (points_in line) (contours_in line)) (over_rooms (frame_in line) rooms) ≡ frame_in line
    fronts =
        λ i. frame_of (front_of (original_in line) (points_in line) rooms.originals i) (front_of (current_in line) (points_in line) rooms.currents i)
        (front_of (mark_in line) (points_in line) rooms.marks i)
        (front_of (end_in line) (contours_in line) rooms.ends i)
