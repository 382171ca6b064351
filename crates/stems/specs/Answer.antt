-- What the stem pass hands back, with its answer.
use Rattle.std.specs.Prelude.{ℕ, Option, None, Result, Ok, Err}
use Rattle.refusals.specs.declared.order.Refusal.{Refusal}
use Rattle.refusals.specs.Outcome.{number_of}
use Rattle.axis.specs.declared.edge.Axis.{Axis}
use Rattle.axis.specs.Link.{Link}
use Rattle.stems.specs.declared.outcome.Stems as Passed

-- an answer, the count of edges passed over, the anchor or none, and the axis
pub record Stems : Type 0 where
  pub answer : ℕ
  pub count : ℕ
  pub anchor : Link
  pub axis : Axis

-- what the pass leaves, beside answer 0
abbrev pub passed_of : Passed.Stems → Stems
passed_of s = record { answer = 0; count = s.count; anchor = s.anchor; axis = s.axis }

-- the answer, and beside a refusal the axis that was given
abbrev pub outcome_of : Axis → Result Passed.Stems Refusal → Stems
outcome_of given (Ok s) = passed_of s
outcome_of given (Err r) = record { answer = number_of r; count = 0; anchor = None; axis = given }
