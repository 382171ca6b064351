-- What building hands back, with its answer.
use Rattle.std.specs.Prelude.{ℕ, Result, Ok, Err}
use Rattle.refusals.specs.declared.order.Refusal.{Refusal}
use Rattle.refusals.specs.Outcome.{number_of}
use Rattle.axis.specs.declared.edge.Axis.{Axis}
use Rattle.axis.specs.declared.segment.Segments.{Segments}
use Rattle.build.specs.declared.built.Built as Both

-- an answer, the segments and the edges
pub record Built : Type 0 where
  pub answer : ℕ
  pub segments : Segments
  pub axis : Axis

-- the answer, and beside a refusal what was given
abbrev pub built_of : Segments → Axis → Result Both.Built Refusal → Built
built_of segments axis (Ok b) = record { answer = 0; segments = b.segments; axis = b.axis }
built_of segments axis (Err r) = record { answer = number_of r; segments = segments; axis = axis }
