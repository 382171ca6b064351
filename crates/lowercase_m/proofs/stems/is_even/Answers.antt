-- `lowercase_m::stems::is_even` meets its contract.
use mathlib.Core.Path.{ap, ◌∙◌}
use Prim.Native.Nat.{ℕ}
use lib.Dec.{ltb}
use lib.IntN.{nat_abs, ◌-ℤ◌}
use native.Mathlib.Omega.{arith}
use Rattle.signed.proofs.Signed.{fits, is, ◌also◌, signed}
use Rattle.signed.proofs.By.{by₂}
use Rattle.lowercase_m.proofs.stems.is_even.Goals as goal

pub overflow_sub-dist1 : goal.overflow_sub-dist1
overflow_sub-dist1 c = fits (omega (arith, signed))

pub overflow_sub-dist2 : goal.overflow_sub-dist2
overflow_sub-dist2 c = fits (omega (arith, signed))

pub overflow_sub-apart : goal.overflow_sub-apart
overflow_sub-apart c = let k = overflow_sub-dist1 c also overflow_sub-dist2 c in fits (omega (arith, signed))

pub overflow_cast-apart : goal.overflow_cast-apart
overflow_cast-apart c = let k = overflow_sub-dist1 c also overflow_sub-dist2 c also overflow_sub-apart c in fits (omega (arith, signed))

pub magnitude-requires : goal.magnitude-requires
magnitude-requires c = let k = overflow_sub-dist1 c also overflow_sub-dist2 c also overflow_sub-apart c also overflow_cast-apart c in omega (arith, signed)

pub returns : goal.returns
returns c =
    let s = c.before in
    let f = s.ranges in
    let dist1 = by₂ ◌-ℤ◌ (is (overflow_sub-dist1 s)) (is f.second) (is f.first) in
    let dist2 = by₂ ◌-ℤ◌ (is (overflow_sub-dist2 s)) (is f.third) (is f.second) in
    ap (λ (n : ℕ). ltb n 8) (c.magnitude.ensures ∙ ap nat_abs (is (overflow_cast-apart s) ∙ by₂ ◌-ℤ◌ (is (overflow_sub-apart s)) dist1 dist2))
