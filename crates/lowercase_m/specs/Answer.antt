-- What the lowercase m rule hands back, with its answer.
use Rattle.std.specs.Prelude.{ℕ, Result, Ok, Err}
use Rattle.refusals.specs.declared.order.Refusal.{Refusal}
use Rattle.refusals.specs.Outcome.{number_of}
use Rattle.axis.specs.declared.edge.Axis.{Axis}

-- an answer and the axis
pub record Hinted : Type 0 where
  pub answer : ℕ
  pub axis : Axis

-- the answer, and beside a refusal the axis that was given
abbrev pub hinted_of : Axis → Result Axis Refusal → Hinted
hinted_of given (Ok axis) = record { answer = 0; axis = axis }
hinted_of given (Err r) = record { answer = number_of r; axis = given }
