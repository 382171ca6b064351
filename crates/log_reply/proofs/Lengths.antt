-- How long an answer and a reply are.
use mathlib.Core.Path.{◌≡◌, refl, ap, ◌∙◌}
use mathlib.Core.Bool.{Bool, true, false, cond, ◌&&◌}
use mathlib.Core.List.{List, [], ◌∷◌}
use Prim.Native.Nat.{ℕ, zero, suc, ◌≤◌}
use native.Mathlib.Omega.{arith}
use lib.ListN.{length, length-append}
use lib.IntN.{ℤ}
use Rattle.refusals.specs.Refusal.{refusal, answered}
use Rattle.weak.specs.Weak.{weak_tests, aligned_at, list_of, result}
use Rattle.words.proofs.Tables.{firsts-length}
use Rattle.log_digits.specs.Digits.{digits_of, digits_for}
use Rattle.log_digits.proofs.Lines.{digits-length, byte_small}
use Rattle.log_frame.specs.Frame.{good_line, frame_in, current_in, points_in}
use Rattle.log_frame.specs.Read.{not_frame}
use Rattle.log_lines.specs.Lines.{line_feed}
use Rattle.log_text.specs.Answer.{refused_bytes, done_bytes, done_size, most_results, job_bytes}
use Rattle.log_text.proofs.Results.{done-length}
use Rattle.log_reply.specs.Reply.{frame_answer, line_bytes, reply, most_reply}

-- weak points leave as many currents as there were
length-list_of : (f : ℕ → ℤ) (i n : ℕ) → length (list_of f i n) ≡ n
unfolding list_of
length-list_of f i zero = refl
length-list_of f i (suc n) = ap suc (length-list_of f (suc i) n)

as_many : (o c : List ℤ) (t es : List ℕ) → length (result o c t es) ≡ length c
unfolding result
as_many o c t es = go (refusal (weak_tests o c t es))
  where
    go : (k : ℕ) → length (answered k (λ _. c) (list_of (aligned_at o c t es) 0 (length c))) ≡ length c
    go zero = length-list_of (aligned_at o c t es) 0 (length c)
    go (suc k) = refl

-- an answer to a job
job-few : (o c : List ℤ) (t es : List ℕ) → length c ≤ most_results → length (job_bytes o c t es) ≤ done_size most_results
unfolding job_bytes
job-few o c t es h = go (refusal (weak_tests o c t es))
  where
    go : (k : ℕ) → length (answered k refused_bytes (done_bytes (result o c t es))) ≤ done_size most_results
    go zero = omega (arith, done-length (result o c t es), as_many o c t es)
    go (suc k) = omega arith

-- a frame counts its points in one byte
currents-few : (line : List ℕ) → length (frame_in line).currents ≤ most_results
unfolding frame_in
currents-few line = omega (arith, firsts-length (current_in line) (points_in line), byte_small line 1)

-- an answer to a line
pub bytes-few : (line : List ℕ) (ended : Bool) → length (line_bytes line ended) ≤ done_size most_results
unfolding line_bytes
bytes-few line ended = go (ended && good_line line)
  where
    go : (b : Bool) → length (cond b (frame_answer (frame_in line)) (refused_bytes not_frame)) ≤ done_size most_results
    go true = job-few (frame_in line).originals (frame_in line).currents (frame_in line).marks (frame_in line).ends (currents-few line)
    go false = omega arith

-- a reply: two digits a byte, and the line feed
pub reply-length : (line : List ℕ) (ended : Bool) → length (reply line ended) ≡ suc (digits_for (length (line_bytes line ended)))
unfolding reply
reply-length line ended = length-append (digits_of (line_bytes line ended)) (line_feed ∷ []) ∙ omega (arith, digits-length (line_bytes line ended))

pub reply-short : (line : List ℕ) (ended : Bool) → length (reply line ended) ≤ most_reply
reply-short line ended = omega (arith, reply-length line ended, bytes-few line ended)
