-- What a call that places one edge hands back, with its answer.
use Rattle.std.specs.Prelude.{ℕ, Option, None, Result, Ok, Err}
use Rattle.refusals.specs.declared.order.Refusal.{Refusal}
use Rattle.refusals.specs.Outcome.{number_of}
use Rattle.axis.specs.Link.{Link}
use Rattle.axis.specs.declared.edge.Axis.{Axis}
use Rattle.place.specs.declared.bounds.Bounds as Found

-- an answer and an axis
pub record Fitted : Type 0 where
  pub answer : ℕ
  pub axis : Axis

-- the answer, and beside a refusal the axis that was given
abbrev pub fitted_of : Axis → Result Axis Refusal → Fitted
fitted_of given (Ok axis) = record { answer = 0; axis = axis }
fitted_of given (Err r) = record { answer = number_of r; axis = given }

-- an answer and two bounds
pub record Bounds : Type 0 where
  pub answer : ℕ
  pub lower : Link
  pub upper : Link

-- the answer, and beside a refusal no bounds
abbrev pub bounds_of : Result Found.Bounds Refusal → Bounds
bounds_of (Ok b) = record { answer = 0; lower = b.lower; upper = b.upper }
bounds_of (Err r) = record { answer = number_of r; lower = None; upper = None }
