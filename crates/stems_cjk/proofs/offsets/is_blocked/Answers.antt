-- `stems_cjk::offsets::is_blocked` meets its contract.
use mathlib.Core.Path.{◌≡◌}
use mathlib.Core.Bool.{true, false}
use native.Mathlib.Omega.{arith}
use lib.IntN.{pos, ◌-ℤ◌}
use lib.Signed.{lt_z, le_z}
use Rattle.signed.proofs.Signed.{fits, is, signed}
use Rattle.stems_cjk.specs.Cjk.{is_blocked}
use Rattle.stems_cjk.proofs.offsets.is_blocked.Goals as goal
use Rattle.stems_cjk.proofs.offsets.is_blocked.Goals.{Else-threshold-d_off1, Else-threshold-d_off1-2, Then-threshold-lt64}

-- the tests on the way
small : (c : Then-threshold-lt64) → lt_z c.args.threshold (pos 64) ≡ true
small c = rw (is c.ranges.threshold) at c.if-threshold-lt64.true

first_above : (c : Else-threshold-d_off1) → le_z c.args.threshold c.args.d_off1 ≡ false
first_above c = let s = c.before.before in rw (is s.ranges.threshold, is s.ranges.d_off1) at c.if-threshold-d_off1.false

pub returns-then-threshold-d_off1 : goal.returns-then-threshold-d_off1
unfolding is_blocked
returns-then-threshold-d_off1 c =
    let t = c.before in
    let s = t.before in
    rw (small t, rw (is s.ranges.threshold, is s.ranges.d_off1) at c.if-threshold-d_off1.true)

pub overflow_sub-d_off1 : goal.overflow_sub-d_off1
overflow_sub-d_off1 c = fits (omega (arith, signed))

first_below : (c : Else-threshold-d_off1-2) → le_z c.args.threshold (pos 64 -ℤ c.args.d_off1) ≡ false
first_below c = let e = c.before in let s = e.before.before in rw (is s.ranges.threshold, is (overflow_sub-d_off1 e), is s.ranges.d_off1) at c.if-threshold-d_off1-2.false

pub returns-then-threshold-d_off1-2 : goal.returns-then-threshold-d_off1-2
unfolding is_blocked
returns-then-threshold-d_off1-2 c =
    let e = c.before in
    let t = e.before in
    let s = t.before in
    rw (small t, first_above e, rw (is s.ranges.threshold, is (overflow_sub-d_off1 e), is s.ranges.d_off1) at c.if-threshold-d_off1-2.true)

pub returns-then-threshold-d_off2 : goal.returns-then-threshold-d_off2
unfolding is_blocked
returns-then-threshold-d_off2 c =
    let f = c.before in
    let e = f.before in
    let t = e.before in
    let s = t.before in
    rw (small t, first_above e, first_below f, rw (is s.ranges.threshold, is s.ranges.d_off2) at c.if-threshold-d_off2.true)

pub overflow_sub-result : goal.overflow_sub-result
overflow_sub-result c = fits (omega (arith, signed))

pub returns-then-threshold-lt64 : goal.returns-then-threshold-lt64
unfolding is_blocked
returns-then-threshold-lt64 c =
    let f = c.before in
    let e = f.before in
    let t = e.before in
    let s = t.before in
    rw (
      small t,
      first_above e,
      first_below f,
      rw (is s.ranges.threshold, is s.ranges.d_off2) at c.if-threshold-d_off2.false,
      is s.ranges.threshold,
      is
          (overflow_sub-result c),
      is s.ranges.d_off2,
    )

pub returns : goal.returns
unfolding is_blocked
returns c = rw (rw (is c.ranges.threshold) at c.if-threshold-lt64.false)
