-- Tables of values by hand: what a definition gives and what it should, and numbers below 0.
use Rattle.std.specs.Prelude.{ℕ, ℤ, pos, neg_ℤ}

-- what a definition gives, and what it should
pub record Row : Type 0 where
  pub gives : ℤ
  pub value : ℤ

infix 3 ◌is◌
abbrev pub ◌is◌ : ℤ → ℤ → Row
g is v = record { gives = g; value = v }

-- -n
abbrev pub minus : ℕ → ℤ
minus n = neg_ℤ (pos n)
