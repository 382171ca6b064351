-- `stems_cjk::offsets::offsets_delta` meets its contract.
use mathlib.Core.Path.{◌≡◌, ap, ◌∙◌, sym}
use mathlib.Core.Bool.{false}
use native.Mathlib.Omega.{arith}
use lib.IntN.{pos}
use lib.Signed.{le_z}
use mir.Syntax.{w32}
use mir.Val.{to_z, of_z}
use Rattle.signed.specs.Equality.{eq_z}
use Rattle.signed.proofs.Signed.{fits, is, got, eq_z-yes, eq_z-no, signed}
use Rattle.stems_cjk.specs.Cjk.{is_blocked, offsets_delta}
use borrow.Author.Rules.{rules}
use Rattle.stems_cjk.proofs.offsets.offsets_delta.Goals as goal
use Rattle.stems_cjk.proofs.offsets.offsets_delta.Goals.{After-is_blocked, Else-cur_len-threshold, Else-d_off1-eq0, Else-d_off2-eq0}

pub returns-then-d_off1-eq0 : goal.returns-then-d_off1-eq0
unfolding offsets_delta
returns-then-d_off1-eq0 c = let s = c.before in rw (eq_z-yes s.args.d_off1 (pos 0) (sym (is s.ranges.d_off1) ∙ ap (to_z w32) c.if-d_off1-eq0.true))

-- neither edge is on a pixel edge
first_off : (c : Else-d_off1-eq0) → eq_z c.args.d_off1 (pos 0) ≡ false
first_off c = eq_z-no c.args.d_off1 (pos 0) (λ e. c.if-d_off1-eq0.false (ap (of_z w32) e))

pub returns-then-d_off2-eq0 : goal.returns-then-d_off2-eq0
unfolding offsets_delta
returns-then-d_off2-eq0 c =
    let o = c.before in let s = o.before in rw (first_off o, eq_z-yes s.args.d_off2 (pos 0) (sym (is s.ranges.d_off2) ∙ ap (to_z w32) c.if-d_off2-eq0.true))

second-off : (c : Else-d_off2-eq0) → eq_z c.args.d_off2 (pos 0) ≡ false
second-off c = eq_z-no c.args.d_off2 (pos 0) (λ e. c.if-d_off2-eq0.false (ap (of_z w32) e))

pub returns-then-cur_len-threshold : goal.returns-then-cur_len-threshold
unfolding offsets_delta
returns-then-cur_len-threshold c =
    let t = c.before in
    let e = t.before in
    let o = e.before in
    let s = o.before in
    rw (
      first_off o,
      second-off e,
      rw (is s.ranges.cur_len, is s.ranges.threshold) at t.if-cur_len-threshold.true,
      is
          (got w32 c.narrow_delta.result c.narrow_delta.type_inv),
    )
    (rw (is s.ranges.d_off1, is s.ranges.d_off2, is s.ranges.cur_len) at c.narrow_delta.ensures)

above : (c : Else-cur_len-threshold) → le_z c.args.cur_len c.args.threshold ≡ false
above c = let s = c.before.before.before in rw (is s.ranges.cur_len, is s.ranges.threshold) at c.if-cur_len-threshold.false

blocked-is : (c : After-is_blocked) → c.is_blocked.result
    ≡ is_blocked c.args.d_off1 c.args.d_off2
    c.args.threshold
blocked-is c = let s = c.before.before.before.before in rw (is s.ranges.d_off1, is s.ranges.d_off2, is s.ranges.threshold) at c.is_blocked.ensures

pub returns-then-is_blocked : goal.returns-then-is_blocked
unfolding offsets_delta
returns-then-is_blocked c =
    let b = c.before in
    let a = b.before in
    let e = a.before in
    let o = e.before in
    rw (first_off o, second-off e, above a, sym (blocked-is b) ∙ c.if-is_blocked.true)

pub wide_delta-requires : goal.wide_delta-requires
wide_delta-requires c = (omega (arith, signed), omega (arith, signed), omega (arith, signed), omega (arith, signed))

pub returns : goal.returns
unfolding offsets_delta
returns c =
    let l = c.before in
    let b = l.before in
    let a = b.before in
    let e = a.before in
    let o = e.before in
    let s = o.before in
    rw (first_off o, second-off e, above a, sym (blocked-is b) ∙ l.if-is_blocked.false, is (got w32 c.wide_delta.result c.wide_delta.type_inv))
    (rw (is s.ranges.d_off1, is s.ranges.d_off2, is s.ranges.cur_len, is s.ranges.threshold) at c.wide_delta.ensures)
