-- `stems_latin::centre::centre_of` meets its contract.
use mathlib.Core.Path.{◌≡◌, ap, ◌∙◌}
use native.Mathlib.Omega.{arith}
use lib.IntN.{ℤ, ◌+ℤ◌}
use lib.Signed.{shr_z}
use mir.Syntax.{w32}
use Rattle.signed.proofs.Signed.{fits, is, got, shr-law, ◌also◌, signed}
use Rattle.stems_latin.specs.Latin.{centre_of}
use Rattle.signed.proofs.By.{by₂}
use borrow.Author.Rules.{rules}
use Rattle.stems_latin.proofs.centre.centre_of.Goals as goal
use Rattle.stems_latin.proofs.centre.centre_of.Goals.{After-half}

-- half the length, rounded down
half_is : (c : After-half) → c.half.result ≡ shr_z c.args.org_len 2
half_is c = c.half.ensures ∙ ap (λ (z : ℤ). shr_z z 2) (is c.ranges.org_len)

pub overflow_add-result : goal.overflow_add-result
overflow_add-result c = let k = half_is c also got w32 c.half.result c.half.type_inv in fits (omega (arith, signed, shr-law c.args.org_len 2 tt))

pub returns : goal.returns
unfolding centre_of
returns c = by₂ ◌+ℤ◌ (is (overflow_add-result c)) (is c.ranges.start) (is (got w32 c.half.result c.half.type_inv) ∙ half_is c)
