-- `shown_count::accept::times_of` meets its contract.
use mathlib.Core.Path.{sym, ap, subst}
use native.Mathlib.Omega.{arith}
use lib.Dec.{T}
use lib.IntN.{ℤ, nat_abs}
use lib.Signed.{non_neg}
use mir.Syntax.{w32}
use mir.Val.{Fits}
use Rattle.signed.proofs.Signed.{signed, is, range, to-unsigned}
use Rattle.shown_count.proofs.accept.times_of.Goals as goal

pub overflow_cast-result : goal.overflow_cast-result
overflow_cast-result c = subst (λ (z : ℤ). T (non_neg z) × Fits w32 (nat_abs z)) (sym (is c.ranges.magnify))
    (to-unsigned w32 c.args.magnify (omega (arith, signed, range c.ranges.magnify, c.requires)))

pub returns : goal.returns
returns c = ap nat_abs (is c.ranges.magnify)
