-- What hinting a CJK stem hands back, with its answer.
use Rattle.std.specs.Prelude.{ℕ, ℤ, pos, Result, Ok, Err}
use Rattle.refusals.specs.declared.order.Refusal.{Refusal}
use Rattle.refusals.specs.Outcome.{number_of}
use Rattle.axis.specs.declared.edge.Axis.{Axis}
use Rattle.stems_cjk.specs.declared.outcome.StemCjk as Moved

-- an answer, what the stem was moved by, and the axis
pub record StemCjk : Type 0 where
  pub answer : ℕ
  pub delta : ℤ
  pub axis : Axis

-- the answer, and beside a refusal the axis that was given
abbrev pub outcome_of : Axis → Result Moved.StemCjk Refusal → StemCjk
outcome_of given (Ok s) = record { answer = 0; delta = s.delta; axis = s.axis }
outcome_of given (Err r) = record { answer = number_of r; delta = pos 0; axis = given }
