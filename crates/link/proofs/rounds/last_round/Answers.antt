-- `link::rounds::last_round` meets its contract: each turn settles one segment, and segments stay within the table.
use native.Mathlib.Omega.{arith}
use native.Mathlib.Nat.{lt_of_lt_of_le}
use Prim.Native.Nat.{◌<◌, ◌-◌}
use Rattle.link.specs.Rounds as R
use Rattle.link.proofs.Loops.{none, turn, end}
use Rattle.link.proofs.Kept.{Every}
use Rattle.link.proofs.Within.{Within, last_within, every-within, to_below}
use Rattle.link.proofs.Turns.{last_none, last-go}
use Rattle.link.proofs.rounds.last_round.Goals as goal
use Rattle.link.proofs.rounds.last_round.Goals.{In-Some}

-- in the middle of the round, each segment is within the table
whole : (c : In-Some)
    → Every c.args.segments.len
    (Within c.args.segments.len)
    c.loop-ix1.table
whole c =
    let outer = c.before.before.before in
    let start = outer.before in
    let o = outer.loop-ix1 in
    last_within _ start.args.thresholds o.ix1 start.args.segments o.table (every-within _ start.requires) o.invariant.2 o.invariant.0

-- the link is to a segment of the table
target : (c : In-Some) → c.in-Some.ix2 < c.args.segments.len
target c =
    let in-outer = c.before.before in
    let o = in-outer.loop-ix1 in
    to_below _ o.ix1 _ o.table (whole c) in-outer.loop-ix1-test.true c.in-Some.is

pub loop-ix1-init : goal.loop-ix1-init
loop-ix1-init c = (omega arith, c.requires.few, none _ _)

pub offset_bounds-table-ix1 : goal.offset_bounds-table-ix1
offset_bounds-table-ix1 c = omega arith

pub bounds-table-ix1 : goal.bounds-table-ix1
bounds-table-ix1 c = omega arith

pub overflow_step-ix1 : goal.overflow_step-ix1
overflow_step-ix1 c = omega arith

pub loop-ix1-smaller-in_default : goal.loop-ix1-smaller-in_default
loop-ix1-smaller-in_default c = omega arith

pub loop-ix1-preserved-in_default : goal.loop-ix1-preserved-in_default
loop-ix1-preserved-in_default c =
    let outer = c.before.before.before in
    let start = outer.before in (
      omega arith,
      outer.loop-ix1.invariant.1,
      turn (R.last_turn start.args.thresholds) outer.loop-ix1.ix1 _ _ _ outer.loop-ix1.invariant.2
          (last_none _ _ _ c.in_default.is),
    )

pub overflow_cast-at2 : goal.overflow_cast-at2
overflow_cast-at2 c = omega arith

pub offset_bounds-table-at2 : goal.offset_bounds-table-at2
offset_bounds-table-at2 c = omega arith

pub bounds-table-at2 : goal.bounds-table-at2
bounds-table-at2 c =
    let start = c.before.before.before.before in
    lt_of_lt_of_le (target c) start.requires.few

pub overflow_cast-ix1 : goal.overflow_cast-ix1
overflow_cast-ix1 c = omega arith

pub settled-requires : goal.settled-requires
settled-requires c = ((whole c.before).each _ (target c.before)).score

pub offset_bounds-table-ix1-in-loop-ix1 : goal.offset_bounds-table-ix1-in-loop-ix1
offset_bounds-table-ix1-in-loop-ix1 c = omega arith

pub bounds-table-ix1-in-loop-ix1 : goal.bounds-table-ix1-in-loop-ix1
bounds-table-ix1-in-loop-ix1 c = omega arith

pub overflow_step-ix1-in-loop-ix1 : goal.overflow_step-ix1-in-loop-ix1
overflow_step-ix1-in-loop-ix1 c = omega arith

pub loop-ix1-smaller : goal.loop-ix1-smaller
loop-ix1-smaller c = omega arith

pub loop-ix1-preserved : goal.loop-ix1-preserved
loop-ix1-preserved c =
    let link = c.before.before in
    let outer = link.before.before.before in
    let start = outer.before in (
      omega arith,
      outer.loop-ix1.invariant.1,
      turn (R.last_turn start.args.thresholds) outer.loop-ix1.ix1 _ _ _ outer.loop-ix1.invariant.2
          (last-go _ _ _ _ _ link.in-Some.is c.settled.ensures),
    )

pub returns : goal.returns
unfolding R.last_round
returns c = end _ _ _ _ _ c.loop-ix1.invariant.0 c.loop-ix1-test.false c.loop-ix1.invariant.2
