-- `stems_cjk::offsets::wide_delta` meets its contract.
use mathlib.Core.Path.{◌≡◌}
use mathlib.Core.Bool.{true, false}
use native.Mathlib.Omega.{arith}
use lib.IntN.{pos, ◌-ℤ◌}
use lib.Signed.{lt_z, le_z, rem_z}
use mir.Syntax.{w32}
use Rattle.signed.proofs.Signed.{fits, is, got, signed}
use Rattle.stems_cjk.specs.Cjk.{wide_delta}
use borrow.Author.Rules.{rules}
use Rattle.stems_cjk.proofs.offsets.wide_delta.Goals as goal
use Rattle.stems_cjk.proofs.offsets.wide_delta.Goals.{After-part_of_pixel-offset, Else-d_off1-offset, Then-offset-lt32}

-- what the width leaves
part-is : (c : After-part_of_pixel-offset) → c.part_of_pixel-offset.result ≡ rem_z c.args.cur_len (pos 64)
part-is c = rw (is c.ranges.cur_len) at c.part_of_pixel-offset.ensures.0

-- the tests on the way
small : (c : Then-offset-lt32) → lt_z (rem_z c.args.cur_len (pos 64)) (pos 32) ≡ true
small c = let p = c.before in rw (is p.part_of_pixel-offset.ensures.1.fits, part-is p) at c.if-offset-lt32.true

pub overflow_sub-d_off1 : goal.overflow_sub-d_off1
overflow_sub-d_off1 c = fits (omega (arith, signed))

pub returns-then-d_off1-offset : goal.returns-then-d_off1-offset
unfolding wide_delta
returns-then-d_off1-offset c =
    let t = c.before in
    let p = t.before in
    let s = p.before in
    rw (small t, rw (is (overflow_sub-d_off1 t), is s.ranges.d_off1, is p.part_of_pixel-offset.ensures.1.fits, part-is p) at c.if-d_off1-offset.true)

first-free : (c : Else-d_off1-offset) → le_z (pos 64 -ℤ c.args.d_off1) (rem_z c.args.cur_len (pos 64)) ≡ false
first-free c =
    let t = c.before in
    let p = t.before in
    let s = p.before in
    rw (is (overflow_sub-d_off1 t), is s.ranges.d_off1, is p.part_of_pixel-offset.ensures.1.fits, part-is p) at c.if-d_off1-offset.false

pub returns-then-d_off2-offset : goal.returns-then-d_off2-offset
unfolding wide_delta
returns-then-d_off2-offset c =
    let e = c.before in
    let t = e.before in
    let p = t.before in
    let s = p.before in
    rw (small t, first-free e, rw (is s.ranges.d_off2, is p.part_of_pixel-offset.ensures.1.fits, part-is p) at c.if-d_off2-offset.true)

pub shortest_move-requires : goal.shortest_move-requires
shortest_move-requires c =
    let p = c.before.before.before in
    let k = p.part_of_pixel-offset.ensures.1 in
    (omega (arith, signed), omega (arith, signed), omega (arith, signed), omega (arith, signed))

pub returns-then-offset-lt32 : goal.returns-then-offset-lt32
unfolding wide_delta
returns-then-offset-lt32 c =
    let f = c.before in
    let e = f.before in
    let t = e.before in
    let p = t.before in
    let s = p.before in
    let k = is p.part_of_pixel-offset.ensures.1.fits in
    rw (small t, first-free e, rw (is s.ranges.d_off2, k, part-is p) at f.if-d_off2-offset.false, is (got w32 c.shortest_move.result c.shortest_move.type_inv))
    (rw (is s.ranges.d_off1, is s.ranges.d_off2, is s.ranges.threshold, k, part-is p) at c.shortest_move.ensures)

pub overflow_sub-threshold : goal.overflow_sub-threshold
overflow_sub-threshold c = fits (omega (arith, signed))

pub shortest_move-requires-2 : goal.shortest_move-requires-2
shortest_move-requires-2 c = let k = overflow_sub-threshold c in (omega (arith, signed), omega (arith, signed), omega (arith, signed), omega (arith, signed))

pub returns : goal.returns
unfolding wide_delta
returns c =
    let e = c.before in
    let p = e.before in
    let s = p.before in
    rw (rw (is p.part_of_pixel-offset.ensures.1.fits, part-is p) at e.if-offset-lt32.false, is (got w32 c.shortest_move-2.result c.shortest_move-2.type_inv))
    (rw (is (overflow_sub-threshold e), is s.ranges.d_off1, is s.ranges.d_off2, is s.ranges.threshold) at c.shortest_move-2.ensures)
