-- What reading a line into rooms says of its answer.
use mathlib.Core.Path.{◌≡◌, refl, sym, ap, ◌∙◌}
use mathlib.Core.Bool.{Bool, true, false, cond}
use mathlib.Core.List.{List}
use Prim.Native.Nat.{ℕ, ◌≤◌, ◌<◌}
use native.Mathlib.Omega.{arith}
use lib.ListN.{length, take, drop, length-append, length-drop}
use lib.Seq.{take_at}
use Rattle.refusals.specs.Refusal.{refusal, answered}
use Rattle.words.specs.Word.{firsts}
use Rattle.words.proofs.Tables.{firsts-length}
use Rattle.log_digits.proofs.Lines.{byte_small}
use Rattle.log_frame.specs.Limits.{most_counted}
use Rattle.log_frame.specs.Frame.{Frame, good_line, frame_in, points_in, contours_in, original_in, current_in, mark_in, end_in}
use Rattle.log_frame.specs.Read.{not_frame, are_rooms, read_tests, read_by, frame_read, over, over_rooms, rooms_read, ReadsFrame}
use Rattle.log_frame.specs.Answer.{ReadFrame}
use Rattle.log_text.specs.Answer.{refused_bytes, job_bytes}
use Rattle.log_reply.specs.Reply.{frame_answer, line_bytes}

-- rooms of as many places as a frame can have
pub record Rooms (f : Frame) : Type 0 where
  pub originals : length f.originals ≡ most_counted
  pub currents : length f.currents ≡ most_counted
  pub marks : length f.marks ≡ most_counted
  pub ends : length f.ends ≡ most_counted

-- the beginning of a room over which a list stands
over-front : {A : Type 0} (n : ℕ) (xs room : List A) → length xs ≡ n → take n (over xs room) ≡ xs
unfolding over
over-front n xs room e = take_at xs (drop (length xs) room) n e

-- such a room stays as long
over-length : {A : Type 0} (xs room : List A) → length xs ≤ length room → length (over xs room) ≡ length room
unfolding over
over-length xs room h = length-append xs (drop (length xs) room) ∙ omega (arith, length-drop (length xs) room)

-- the tests come to that of the line
tested : (line : List ℕ) (rooms : Frame) → Rooms rooms → refusal (read_tests line rooms) ≡ cond (good_line line) 0 not_frame
unfolding refusal are_rooms
tested line rooms h = rw (h.originals, h.currents, h.marks, h.ends)

module _ (line : List ℕ) {rooms : Frame} {r : ReadFrame} {left : Frame} (w : ReadsFrame line rooms r left) (h : Rooms rooms) where
  handed : (g : Bool) → good_line line ≡ g → r ≡ answered (cond g 0 not_frame) (λ k. read_by k 0 0) (read_by 0 (points_in line) (contours_in line))
  unfolding frame_read
  handed g e =
      w.handed ∙ ap (λ (k : ℕ). answered k (λ j. read_by j 0 0) (read_by 0 (points_in line) (contours_in line)))
      (tested line rooms h ∙ ap (λ (b : Bool). cond b 0 not_frame) e)

  -- a refusal is that of the line
  pub read-bad : 0 < r.answer → refused_bytes r.answer ≡ line_bytes line true
  unfolding line_bytes
  read-bad k = go (good_line line) refl
    where
      go : (g : Bool) → good_line line ≡ g → refused_bytes r.answer ≡ cond g (frame_answer (frame_in line)) (refused_bytes not_frame)
      go true e = absurd (let z : r.answer ≡ 0 = ap (λ (x : ReadFrame). x.answer) (handed true e) in omega (arith, z, k))
      go false e = ap (λ (x : ReadFrame). refused_bytes x.answer) (handed false e)

  -- where there is none the line is good
  module _ (k : r.answer ≤ 0) where
    good : good_line line ≡ true
    good = go (good_line line) refl
      where
        go : (g : Bool) → good_line line ≡ g → g ≡ true
        go true e = refl
        go false e = absurd (let z : r.answer ≡ not_frame = ap (λ (x : ReadFrame). x.answer) (handed false e) in omega (arith, z, k))

    -- its counts are read, each of one byte
    points-read : r.points ≡ points_in line
    points-read = ap (λ (x : ReadFrame). x.points) (handed true good)

    contours-read : r.contours ≡ contours_in line
    contours-read = ap (λ (x : ReadFrame). x.contours) (handed true good)

    pub points-few : r.points ≤ most_counted
    points-few = omega (arith, points-read, byte_small line 1)

    pub contours-few : r.contours ≤ most_counted
    contours-few = omega (arith, contours-read, byte_small line 2)

    -- and its frame stands in the rooms
    leaves : left ≡ over_rooms (frame_in line) rooms
    unfolding rooms_read
    leaves =
        w.leaves ∙ ap (λ (j : ℕ). answered j (λ _. rooms) (over_rooms (frame_in line) rooms)) (tested line rooms h ∙ ap (λ (b : Bool). cond b 0 not_frame) good)

    first : {A : Type 0} (f : ℕ → A) (n : ℕ) (room : List A) → n < 256 → length room ≡ most_counted → length (over (firsts f n) room) ≡ most_counted
    first f n room few e = over-length (firsts f n) room (omega (arith, firsts-length f n, e)) ∙ e

    pub rooms-kept : Rooms left
    unfolding frame_in over_rooms
    rooms-kept = record {
      originals =
          ap (λ (f : Frame). length f.originals) leaves ∙ first (original_in line) (points_in line) rooms.originals (byte_small line 1) h.originals;
      currents = ap (λ (f : Frame). length f.currents) leaves ∙ first (current_in line) (points_in line) rooms.currents (byte_small line 1) h.currents;
      marks = ap (λ (f : Frame). length f.marks) leaves ∙ first (mark_in line) (points_in line) rooms.marks (byte_small line 1) h.marks;
      ends = ap (λ (f : Frame). length f.ends) leaves ∙ first (end_in line) (contours_in line) rooms.ends (byte_small line 2) h.ends;
    }

    -- so that the job in the rooms is the line's
    pub read-good : job_bytes (take r.points left.originals) (take r.points left.currents) (take r.points left.marks)
        (take r.contours left.ends) ≡ line_bytes line true
    unfolding line_bytes frame_in over_rooms
    read-good =
        (λ i. job_bytes (take (points-read i) (leaves i).originals) (take (points-read i) (leaves i).currents) (take (points-read i) (leaves i).marks)
        (take (contours-read i) (leaves i).ends))
        ∙ (λ i. job_bytes
        (over-front (points_in line) (firsts (original_in line) (points_in line)) rooms.originals (firsts-length (original_in line) (points_in line)) i)
        (over-front (points_in line) (firsts (current_in line) (points_in line)) rooms.currents (firsts-length (current_in line) (points_in line)) i)
        (over-front (points_in line) (firsts (mark_in line) (points_in line)) rooms.marks (firsts-length (mark_in line) (points_in line)) i)
        (over-front (contours_in line) (firsts (end_in line) (contours_in line)) rooms.ends (firsts-length (end_in line) (contours_in line)) i))
        ∙ ap (λ (b : Bool). cond b (frame_answer (frame_in line)) (refused_bytes not_frame)) (sym good)
