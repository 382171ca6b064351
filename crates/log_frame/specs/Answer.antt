-- What writing and reading a frame hands back, with its answer.
use Rattle.std.specs.Prelude.{ℕ, Result, Ok, Err}
use Rattle.refusals.specs.declared.order.Refusal.{Refusal}
use Rattle.refusals.specs.Outcome.{number_of}
use Rattle.log_frame.specs.declared.read.Counts.{Counts}

-- an answer and the count of digits
pub record Written : Type 0 where
  pub answer : ℕ
  pub digits : ℕ

-- the answer, and beside a refusal no digits
abbrev pub written_of : Result ℕ Refusal → Written
written_of (Ok digits) = record { answer = 0; digits = digits }
written_of (Err r) = record { answer = number_of r; digits = 0 }

-- an answer, and the counts of points and contours
pub record ReadFrame : Type 0 where
  pub answer : ℕ
  pub points : ℕ
  pub contours : ℕ

-- the answer, and beside a refusal no points and no contours
abbrev pub read_of : Result Counts Refusal → ReadFrame
read_of (Ok c) = record { answer = 0; points = c.points; contours = c.contours }
read_of (Err r) = record { answer = number_of r; points = 0; contours = 0 }
