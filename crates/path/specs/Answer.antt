-- What a call on one step hands back, with its answer.
use Rattle.std.specs.Prelude.{ℕ, Option, Some, None, Result, Ok, Err}
use Rattle.refusals.specs.declared.order.Refusal.{Refusal}
use Rattle.refusals.specs.Outcome.{number_of}
use Rattle.path_trip.specs.declared.step.PathStep.{PathStep}
use Rattle.path.specs.declared.hand.Cursor.{Cursor}

-- the number of the refusal, that the path is finished, or a step with the next cursor
pub data Handed : Type 0 where
  Refused : ℕ → Handed
  Finished : Handed
  Step : PathStep → Cursor → Handed

-- what is handed out
abbrev pub handed_of : Result (Option (PathStep × Cursor)) Refusal → Handed
handed_of (Ok (Some p)) = Step p.0 p.1
handed_of (Ok None) = Finished
handed_of (Err r) = Refused (number_of r)
