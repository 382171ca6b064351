-- `pixels::halfway` meets its contract: the sum is small enough that neither the cast nor the quotient rounds.
use Prim.Native.Nat.{◌≤◌, ◌<◌, ◌^◌}
use native.Mathlib.Omega.{arith}
use lib.Dec.{lit≤}
use lib.IntN.{ℤ, nat_abs, ◌+ℤ◌}
use lib.Ieee.{of_bits}
use mir.Syntax.{w32}
use mir.Val.{SFits}
use mir.ValLaws.{to_z-of_z}
use Rattle.path_places.specs.Exact.{most_exact}
use Rattle.path_places.proofs.Exact.{div-exact, div_value, in-float, abs-sum, mag-le}
use Rattle.path_places.proofs.halfway.Goals as goal

sum_fits : (a b : ℤ) → (nat_abs a ≤ most_exact) × (nat_abs b ≤ most_exact) → SFits w32 (a +ℤ b)
sum_fits a b h = record { sfits = omega (arith, mag-le (a +ℤ b), abs-sum a b) }

sum-small : (a b : ℤ) → (nat_abs a ≤ most_exact) × (nat_abs b ≤ most_exact) → nat_abs (a +ℤ b) < 2 ^ 24
sum-small a b h = omega (arith, abs-sum a b)

pub overflow_add-result : goal.overflow_add-result
overflow_add-result c =
    rw (to_z-of_z w32 c.args.a c.ranges.a, to_z-of_z w32 c.args.b c.ranges.b) (sum_fits c.args.a c.args.b c.requires)

pub int_to_float-result : goal.int_to_float-result
int_to_float-result c =
    let s = c in
    let a = s.args.a in
    let b = s.args.b in
    rw (to_z-of_z w32 a s.ranges.a, to_z-of_z w32 b s.ranges.b, to_z-of_z w32 (a +ℤ b) (sum_fits a b s.requires))
    (in-float (a +ℤ b) (omega (arith, sum-small a b s.requires)))

pub returns : goal.returns
unfolding of_bits
returns c =
    let s = c in
    let a = s.args.a in
    let b = s.args.b in
    rw (to_z-of_z w32 a s.ranges.a, to_z-of_z w32 b s.ranges.b, to_z-of_z w32 (a +ℤ b) (sum_fits a b s.requires))
    record { is = div-exact (a +ℤ b) 7 (sum-small a b s.requires) (lit≤ tt); exact = div_value (a +ℤ b) 7 (sum-small a b s.requires) (lit≤ tt) }
