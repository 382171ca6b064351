-- `stems_cjk::offsets::narrow_delta` meets its contract.
use mathlib.Core.Path.{◌≡◌}
use mathlib.Core.Bool.{true}
use native.Mathlib.Omega.{arith}
use lib.IntN.{neg_ℤ, +ℤ_idl}
use lib.Signed.{lt_z}
use Rattle.signed.proofs.Signed.{fits, is, signed}
use Rattle.stems_cjk.specs.Cjk.{narrow_delta}
use Rattle.stems_cjk.proofs.offsets.narrow_delta.Goals as goal
use Rattle.stems_cjk.proofs.offsets.narrow_delta.Goals.{Then-d_off2-cur_len}

-- a pixel edge lies inside the stem
inside : (c : Then-d_off2-cur_len) → lt_z c.args.d_off2 c.args.cur_len ≡ true
inside c = let s = c.before in rw (is s.ranges.d_off2, is s.ranges.cur_len) at c.if-d_off2-cur_len.true

pub overflow_sub-u_off1 : goal.overflow_sub-u_off1
overflow_sub-u_off1 c = fits (omega (arith, signed))

pub returns-then-u_off1-d_off2 : goal.returns-then-u_off1-d_off2
unfolding narrow_delta
returns-then-u_off1-d_off2 c =
    let t = c.before in
    let s = t.before in
    rw (inside t, rw (is (overflow_sub-u_off1 t), is s.ranges.d_off1, is s.ranges.d_off2) at c.if-u_off1-d_off2.true, is (overflow_sub-u_off1 t), is s.ranges.d_off1)

pub overflow_sub-result : goal.overflow_sub-result
overflow_sub-result c = fits (omega (arith, signed))

pub returns-then-d_off2-cur_len : goal.returns-then-d_off2-cur_len
unfolding narrow_delta
returns-then-d_off2-cur_len c =
    let t = c.before in
    let s = t.before in
    rw (
      inside t,
      rw (is (overflow_sub-u_off1 t), is s.ranges.d_off1, is s.ranges.d_off2) at c.if-u_off1-d_off2.false,
      is (overflow_sub-result c),
      is s.ranges.d_off2,
      +ℤ_idl
          (neg_ℤ s.args.d_off2),
    )

pub returns : goal.returns
unfolding narrow_delta
returns c = let s = c.before in rw (rw (is s.ranges.d_off2, is s.ranges.cur_len) at c.if-d_off2-cur_len.false)
