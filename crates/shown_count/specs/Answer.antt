-- What counting what the display shows hands back, with its answer.
use Rattle.std.specs.Prelude.{ℕ, ℤ, pos, Result, Ok, Err}
use Rattle.refusals.specs.declared.order.Refusal.{Refusal}
use Rattle.refusals.specs.Outcome.{number_of}
use Rattle.shown_count.specs.declared.count.Shown as Counts

-- an answer, how many pixels are black, and their Euler number
pub record Shown : Type 0 where
  pub answer : ℕ
  pub black : ℕ
  pub euler : ℤ

-- the answer, and beside a refusal no pixel
abbrev pub shown_of : Result Counts.Shown Refusal → Shown
shown_of (Ok s) = record { answer = 0; black = s.black; euler = s.euler }
shown_of (Err r) = record { answer = number_of r; black = 0; euler = pos 0 }
