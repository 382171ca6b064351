-- What putting edges on their blue zones hands back, with its answer.
use Rattle.std.specs.Prelude.{ℕ, Option, None, Result, Ok, Err}
use Rattle.refusals.specs.declared.order.Refusal.{Refusal}
use Rattle.refusals.specs.Outcome.{number_of}
use Rattle.axis.specs.declared.edge.Axis.{Axis}
use Rattle.axis.specs.Link.{Link}
use Rattle.zones.specs.declared.anchored.Anchored as Passed

-- an answer, the anchor or none, and the axis
pub record Anchored : Type 0 where
  pub answer : ℕ
  pub anchor : Link
  pub axis : Axis

-- what the pass leaves, beside answer 0
abbrev pub passed_of : Passed.Anchored → Anchored
passed_of a = record { answer = 0; anchor = a.anchor; axis = a.axis }

-- the answer, and beside a refusal the axis that was given
abbrev pub outcome_of : Axis → Result Passed.Anchored Refusal → Anchored
outcome_of given (Ok a) = passed_of a
outcome_of given (Err r) = record { answer = number_of r; anchor = None; axis = given }
