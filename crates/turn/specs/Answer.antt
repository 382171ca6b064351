-- What turning an axis over hands back, with its answer.
use Rattle.std.specs.Prelude.{ℕ, Result, Ok, Err}
use Rattle.refusals.specs.declared.order.Refusal.{Refusal}
use Rattle.refusals.specs.Outcome.{number_of}
use Rattle.axis.specs.declared.edge.Axis.{Axis}
use Rattle.axis.specs.declared.segment.Segments.{Segments}
use Rattle.turn.specs.declared.turn.Turned as Both

-- an answer, the axis and the segments
pub record Turned : Type 0 where
  pub answer : ℕ
  pub axis : Axis
  pub segments : Segments

-- the answer, and beside a refusal what was given
abbrev pub turned_of : Axis → Segments → Result Both.Turned Refusal → Turned
turned_of axis segments (Ok t) = record { answer = 0; axis = t.axis; segments = t.segments }
turned_of axis segments (Err r) = record { answer = number_of r; axis = axis; segments = segments }
