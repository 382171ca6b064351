-- `link::rounds::rewrite_links` meets its contract: each turn rewrites one segment.
use native.Mathlib.Omega.{arith}
use Prim.Native.Nat.{◌-◌}
use Rattle.link.specs.Rounds as R
use Rattle.link.proofs.Loops.{none, turn, end}
use Rattle.link.proofs.Turns.{rewrite-go}
use Rattle.link.proofs.rounds.rewrite_links.Goals as goal

pub loop-i-init : goal.loop-i-init
loop-i-init c = (omega arith, c.requires, none _ _)

pub offset_bounds-table-i : goal.offset_bounds-table-i
offset_bounds-table-i c = omega arith

pub bounds-table-i : goal.bounds-table-i
bounds-table-i c = omega arith

pub offset_bounds-table-i-in-loop-i : goal.offset_bounds-table-i-in-loop-i
offset_bounds-table-i-in-loop-i c = omega arith

pub bounds-table-i-in-loop-i : goal.bounds-table-i-in-loop-i
bounds-table-i-in-loop-i c = omega arith

pub overflow_step-i : goal.overflow_step-i
overflow_step-i c = omega arith

pub loop-i-smaller : goal.loop-i-smaller
loop-i-smaller c = omega arith

pub loop-i-preserved : goal.loop-i-preserved
loop-i-preserved c =
    let outer = c in
    let start = outer in (
      omega arith,
      outer.loop-i.invariant.1,
      turn (R.rewrite_turn start.args.ix2 start.args.link1_ix start.args.link2_ix start.args.ix1) outer.loop-i.i _ _ _ outer.loop-i.invariant.2
          (rewrite-go _ _ _ _ _ _ _ c.rewritten.ensures),
    )

pub returns : goal.returns
unfolding R.rewrite_all
returns c = end _ _ _ _ _ c.loop-i.invariant.0 c.loop-i-test.false c.loop-i.invariant.2
