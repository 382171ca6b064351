-- What the steps of writing and reading promise each other.
use Rattle.std.specs.Prelude.{◌≡◌, List, ℕ, ◌+◌, ◌*◌, ◌≤◌, length, get_or, ℤ, pos}
use Rattle.std.specs.Int.{w16}
use Rattle.std.proofs.Common.{SFits}
use Rattle.words.specs.Word.{firsts}
use Rattle.log_digits.specs.Digits.{digits_for}
use Rattle.log_frame.specs.Limits.{most_counted, head_size, point_size, frame_size}
use Rattle.log_frame.specs.Frame.{Frame, original_in, current_in, mark_in}
use Rattle.log_frame.specs.Read.{over}

-- points that can be written into a line of so many places
pub record PointsFit (o c : List ℤ) (t : List ℕ) (places : ℕ) : Type 0 where
  pub currents_length : length c ≡ length o
  pub marks_length : length t ≡ length o
  pub room : digits_for (head_size + point_size * length o) ≤ places
  pub originals : (i : ℕ) → SFits w16 (get_or o i (pos 0))
  pub currents : (i : ℕ) → SFits w16 (get_or c i (pos 0))

-- contour ends of one byte each
abbrev pub EndsFit : List ℕ → Type 0
EndsFit es = (i : ℕ) → get_or es i 0 ≤ most_counted

-- a frame that is not refused
pub record Writable (f : Frame) (places : ℕ) : Type 0 where
  pub points : PointsFit f.originals f.currents f.marks places
  pub few-points : length f.originals ≤ most_counted
  pub few_contours : length f.ends ≤ most_counted
  pub room : digits_for (frame_size (length f.originals) (length f.ends)) ≤ places
  pub ends : EndsFit f.ends

-- the points of a line read into their rooms
pub record PointsRead (line : List ℕ) (n : ℕ) (o c : List ℤ) (t : List ℕ) (o' c' : List ℤ) (t' : List ℕ) : Type 0 where
  pub originals : o' ≡ over (firsts (original_in line) n) o
  pub currents : c' ≡ over (firsts (current_in line) n) c
  pub marks : t' ≡ over (firsts (mark_in line) n) t
