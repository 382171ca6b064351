-- Fixed divide (document 01, "Helpers, completed"; request #109): a quotient, or too steep.
use Rattle.std.specs.Prelude.{Bool, cond, ℕ, ltb, ℤ, nat_abs, None, Some}
use Rattle.refusals.specs.Refusal.{steep}
use Rattle.fixed.specs.Point.{div_fix}
use Rattle.fixed.specs.Quotient.{Quotient}

-- the largest magnitude of a quotient that is an answer
abbrev pub steepest : ℕ
steepest = 2147483647

-- the rounded quotient of a by b has a larger one
unfoldable pub too_steep : ℤ → ℤ → Bool
too_steep a b = ltb steepest (nat_abs (div_fix a b))

-- what fixed divide answers
unfoldable pub quotient_of : ℤ → ℤ → Quotient
quotient_of a b = cond (too_steep a b) None (Some (div_fix a b))

-- the paper's number for each case: 0 beside a quotient, and the refusal of what is too steep
abbrev pub quotient_number : Quotient → ℕ
quotient_number (Some q) = 0
quotient_number None = steep
