-- What an outcome's variant tells of its answer.
use Rattle.std.specs.Prelude.{◌≡◌, Bool, true, false, ℕ, eqb, Result, Ok, Err}
use Rattle.std.proofs.Common.{refl, sym, ◌<◌, ◌≤◌, arith}
use Rattle.std.specs.Result.{is_ok}
use borrow.Author.Tests.{ne_eqb}
use Rattle.refusals.specs.declared.order.Refusal.{Refusal}
use Rattle.refusals.specs.Outcome.{answer_of, number_of}
use Rattle.refusals.proofs.Outcomes.{number-above}

-- there is none, or one above 0
pub told-none : {T : Type 0} (o : Result T Refusal) → is_ok o ≡ true → answer_of o ≤ 0
told-none (Ok x) e = omega arith
told-none (Err r) e = cc

pub told-above : {T : Type 0} (o : Result T Refusal) → is_ok o ≡ false → 0 < answer_of o
told-above (Ok x) e = cc
told-above (Err r) e = number-above r

-- as a test of the answer
pub told-by : {T : Type 0} (o : Result T Refusal) → is_ok o ≡ eqb (answer_of o) 0
told-by (Ok x) = refl
told-by (Err r) = let p = number-above r in sym (ne_eqb (number_of r) 0 (λ e. omega (arith, p, e)))
