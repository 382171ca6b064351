-- What linking hands back, with its answer.
use Rattle.std.specs.Prelude.{ℕ, Result, Ok, Err}
use Rattle.refusals.specs.declared.order.Refusal.{Refusal}
use Rattle.refusals.specs.Outcome.{number_of}
use Rattle.axis.specs.declared.segment.Segments.{Segments}

-- an answer and the segments
pub record Linked : Type 0 where
  pub answer : ℕ
  pub segments : Segments

-- the answer, and beside a refusal the segments that were given
abbrev pub linked_of : Segments → Result Segments Refusal → Linked
linked_of given (Ok segments) = record { answer = 0; segments = segments }
linked_of given (Err r) = record { answer = number_of r; segments = given }
