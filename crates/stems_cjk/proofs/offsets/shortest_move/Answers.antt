-- `stems_cjk::offsets::shortest_move` meets its contract.
use mathlib.Core.Path.{◌≡◌}
use native.Mathlib.Omega.{arith}
use lib.IntN.{pos, ◌-ℤ◌}
use mir.Syntax.{w32}
use Rattle.signed.proofs.Signed.{fits, is, got, ◌also◌, signed}
use Rattle.stems_cjk.specs.Cjk.{down_or_up, shortest_move}
use borrow.Author.Rules.{rules}
use Rattle.stems_cjk.proofs.offsets.shortest_move.Goals as goal
use Rattle.stems_cjk.proofs.offsets.shortest_move.Goals.{After-down_or_up-first, After-down_or_up-second}

pub overflow_sub-u_off1 : goal.overflow_sub-u_off1
overflow_sub-u_off1 c = fits (omega (arith, signed))

pub overflow_sub-threshold : goal.overflow_sub-threshold
overflow_sub-threshold c = let k = overflow_sub-u_off1 c in fits (omega (arith, signed))

pub overflow_sub-u_off1-2 : goal.overflow_sub-u_off1-2
overflow_sub-u_off1-2 c = let k = overflow_sub-u_off1 c in fits (omega (arith, signed))

pub down_or_up-first-requires : goal.down_or_up-first-requires
down_or_up-first-requires c = let k = overflow_sub-u_off1 c also overflow_sub-threshold c also overflow_sub-u_off1-2 c in (omega (arith, signed), omega (arith, signed))

-- the move of the first edge
first_is : (c : After-down_or_up-first) → c.down_or_up-first.result
    ≡ down_or_up (c.args.threshold -ℤ (pos 64 -ℤ c.args.d_off1)) ((pos 64 -ℤ c.args.d_off1) -ℤ c.args.offset)
first_is c =
    let s = c.before in
    rw (is (overflow_sub-threshold s), is (overflow_sub-u_off1-2 s), is (overflow_sub-u_off1 s), is s.ranges.d_off1, is s.ranges.offset, is s.ranges.threshold)
    at c.down_or_up-first.ensures.0

pub overflow_sub-d_off2 : goal.overflow_sub-d_off2
overflow_sub-d_off2 c = fits (omega (arith, signed))

pub overflow_sub-threshold-2 : goal.overflow_sub-threshold-2
overflow_sub-threshold-2 c = fits (omega (arith, signed))

pub down_or_up-second-requires : goal.down_or_up-second-requires
down_or_up-second-requires c = let k = overflow_sub-d_off2 c also overflow_sub-threshold-2 c in (omega (arith, signed), omega (arith, signed))

-- and of the second
second_is : (c : After-down_or_up-second) → c.down_or_up-second.result
    ≡ down_or_up (c.args.d_off2 -ℤ c.args.offset) (c.args.threshold -ℤ c.args.d_off2)
second_is c =
    let o = c.before in
    let s = o.before in
    rw (is (overflow_sub-d_off2 o), is (overflow_sub-threshold-2 o), is s.ranges.d_off2, is s.ranges.offset, is s.ranges.threshold) at c.down_or_up-second.ensures.0

pub returns : goal.returns
unfolding shortest_move
returns c =
    let n = c.before in
    let m = n.before in
    rw (
      is (got w32 c.smaller_of.result c.smaller_of.type_inv),
      rw (is m.down_or_up-first.ensures.1.fits, is n.down_or_up-second.ensures.1.fits, first_is m, second_is n) at c.smaller_of.ensures,
    )
