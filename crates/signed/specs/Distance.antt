-- How far two signed numbers are apart.
use Rattle.std.specs.Prelude.{ℕ, ℤ, nat_abs, ◌-ℤ◌}

-- the distance of a and b
abbrev pub distance : ℤ → ℤ → ℕ
distance a b = nat_abs (a -ℤ b)
