-- `stems_cjk::offsets::down_or_up` meets its contract.
use native.Mathlib.Omega.{arith}
use lib.IntN.{neg_ℤ, +ℤ_idl}
use Rattle.signed.proofs.Signed.{fits, is, i32, signed}
use Rattle.stems_cjk.proofs.offsets.down_or_up.Goals as goal

pub overflow_sub-result : goal.overflow_sub-result
overflow_sub-result c = fits (omega (arith, signed))

pub returns-then-down-up : goal.returns-then-down-up
returns-then-down-up c =
    let s = c.before in
    let k = overflow_sub-result c in (
      rw (rw (is s.ranges.down, is s.ranges.up) at c.if-down-up.true, is (overflow_sub-result c), is s.ranges.down, +ℤ_idl (neg_ℤ s.args.down)),
      i32
          (omega (arith, signed)) tt tt,
    )

pub returns : goal.returns
returns c = let s = c.before in (rw (rw (is s.ranges.down, is s.ranges.up) at c.if-down-up.false, is s.ranges.up), i32 (omega (arith, signed)) tt tt)
