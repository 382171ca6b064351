-- What the steps of fixed multiply and divide promise each other.
use Rattle.std.specs.Prelude.{cond, ℕ, ℤ, pos, neg_ℤ}
use Rattle.std.specs.Int.Signed.{lt_z}

-- the constants that `derived_constant` takes
abbrev pub most_constant : ℕ
most_constant = 65535

-- and the units per em
abbrev pub most_em : ℕ
most_em = 16384

-- the magnitude n with the sign of a product or a quotient of a and b: below zero where exactly one of them is
unfoldable pub signed_like : ℕ → ℤ → ℤ → ℤ
signed_like n a b = cond (lt_z a (pos 0)) (cond (lt_z b (pos 0)) (pos n) (neg_ℤ (pos n))) (cond (lt_z b (pos 0)) (neg_ℤ (pos n)) (pos n))
