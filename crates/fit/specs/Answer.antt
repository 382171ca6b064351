-- What fitting the edges of an axis hands back, with its answer.
use Rattle.std.specs.Prelude.{ℕ, None, Result, Ok, Err}
use Rattle.refusals.specs.declared.order.Refusal.{Refusal}
use Rattle.refusals.specs.Outcome.{number_of}
use Rattle.axis.specs.Link.{Link}
use Rattle.gaps.specs.Answer.{Gaps, found_of}
use Rattle.gaps.specs.Gaps.{refused_by}
use Rattle.fit.specs.declared.outcome.FittedEdges as Told

-- an answer, how many edges stems have passed over, the anchor or none, and what the guard has found
pub record FittedEdges : Type 0 where
  pub answer : ℕ
  pub count : ℕ
  pub anchor : Link
  pub gaps : Gaps

-- what is told, beside answer 0
abbrev pub told_of : Told.FittedEdges → FittedEdges
told_of e = record { answer = 0; count = e.count; anchor = e.anchor; gaps = found_of e.gaps }

-- the answer, and beside a refusal nothing
abbrev pub edges_of : Result Told.FittedEdges Refusal → FittedEdges
edges_of (Ok e) = told_of e
edges_of (Err r) = record { answer = number_of r; count = 0; anchor = None; gaps = refused_by 0 }
