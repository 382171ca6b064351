-- What the guard hands back, with its answer.
use Rattle.std.specs.Prelude.{ℕ, Option, None, Result, Ok, Err, pos}
use Rattle.refusals.specs.declared.order.Refusal.{Refusal}
use Rattle.refusals.specs.Outcome.{number_of}
use Rattle.gaps.specs.declared.pair.Pair.{Pair}
use Rattle.gaps.specs.declared.find.Gaps as Found

-- an answer, the count of lost gaps, the first lost pair or none, the count of lost stems, and that of edges that are not done
pub record Gaps : Type 0 where
  pub answer : ℕ
  pub count : ℕ
  pub pair : Pair
  pub stems : ℕ
  pub not_done : ℕ

-- what is found, beside answer 0
abbrev pub found_of : Found.Gaps → Gaps
found_of g = record { answer = 0; count = g.count; pair = g.pair; stems = g.stems; not_done = g.not_done }

-- the answer, and beside a refusal nothing found
abbrev pub gaps_of : Result Found.Gaps Refusal → Gaps
gaps_of (Ok g) = found_of g
gaps_of (Err r) = record { answer = number_of r; count = 0; pair = record { first = None; second = None; before = pos 0; after = pos 0 }; stems = 0; not_done = 0 }
