-- The reply to a line of a log (document 02, #103): one line of digits.
use Rattle.std.specs.Prelude.{◌≡◌, Bool, cond, ◌&&◌, List, [], ◌∷◌, ◌++◌, ℕ, ◌+◌, leb, length, drop}
use Rattle.log_digits.specs.Digits.{digits_of, digits_for}
use Rattle.log_frame.specs.Frame.{Frame, good_line, frame_in}
use Rattle.log_frame.specs.Read.{not_frame}
use Rattle.log_lines.specs.Lines.{line_feed}
use Rattle.log_text.specs.Answer.{refused_bytes, done_size, most_results, job_bytes}

-- the bytes that answer the job of a frame
abbrev pub frame_answer : Frame → List ℕ
frame_answer f = job_bytes f.originals f.currents f.marks f.ends

-- the bytes that answer a line, which is given without its line feed and with whether it has one: a good line holds a job, and every other is not a whole frame
unfoldable pub line_bytes : List ℕ → Bool → List ℕ
line_bytes line ended = cond (ended && good_line line) (frame_answer (frame_in line)) (refused_bytes not_frame)

-- the reply: their digits, and a line feed
unfoldable pub reply : List ℕ → Bool → List ℕ
reply line ended = digits_of (line_bytes line ended) ++ line_feed ∷ []

-- bytes of the longest reply
abbrev pub most_reply : ℕ
most_reply = digits_for (done_size most_results) + 1

-- what `reply_to` owes its caller: how many bytes it wrote, r, and what it leaves of the lent bytes; where there is no room for the longest reply, nothing
pub record Replies (line : List ℕ) (ended : Bool) (out : List ℕ) (r : ℕ) (left : List ℕ) : Type 0 where
  pub size : r ≡ cond (leb most_reply (length out)) (length (reply line ended)) 0
  pub leaves : left ≡ cond (leb most_reply (length out)) (reply line ended ++ drop (length (reply line ended)) out) out
