-- `place::adjust::is_far` meets its contract.
use mathlib.Core.Path.{ap}
use Prim.Native.Nat.{ℕ}
use lib.Dec.{ltb}
use native.Mathlib.Omega.{arith}
use Rattle.signed.proofs.Signed.{fits, is, ◌also◌, signed}
use Rattle.place.proofs.adjust.is_far.Goals as goal

pub overflow_sub-apart : goal.overflow_sub-apart
overflow_sub-apart c = fits (omega (arith, signed))

pub overflow_cast-apart : goal.overflow_cast-apart
overflow_cast-apart c = let k = overflow_sub-apart c in fits (omega (arith, signed))

pub magnitude-requires : goal.magnitude-requires
magnitude-requires c = let k = overflow_sub-apart c also overflow_cast-apart c in omega (arith, signed)

pub returns : goal.returns
returns c =
    let s = c.before in
    ap (λ (n : ℕ). ltb 16 n) (rw (is (overflow_cast-apart s), is (overflow_sub-apart s), is s.ranges.pos1, is s.ranges.pos2) at c.magnitude.ensures)
