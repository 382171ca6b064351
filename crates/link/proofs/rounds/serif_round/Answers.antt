-- `link::rounds::serif_round` meets its contract: each inner turn holds one stem against the first, until the break.
use native.Mathlib.Omega.{arith}
use native.Mathlib.Nat.{lt_of_lt_of_le}
use mathlib.Core.Path.{◌≡◌, sym, ◌∙◌}
use Prim.Native.Nat.{◌<◌, ◌-◌}
use Rattle.axis.specs.Segment.{segment_at}
use Rattle.link.specs.Rounds as R
use Rattle.link.proofs.Loops.{none, turn, end}
use Rattle.link.proofs.Kept.{Every}
use Rattle.link.proofs.Within.{Within, serif_within, every-within, to_below}
use Rattle.link.proofs.Turns.{serif-none, serif-skip, serif-go}
use Rattle.link.proofs.Holding as H
use Rattle.link.proofs.rounds.serif_round.Goals as goal
use Rattle.link.proofs.rounds.serif_round.Goals.{In-Some, In-Some-second, Left-loop-ix2, else-loop-ix2-test, then-loop-ix2-test+in-Some-second+else-not-encloses+else-is_much_longer}

-- in the middle of the round, each segment is within the table
whole : (c : In-Some)
    → Every c.args.segments.len
    (Within c.args.segments.len)
    c.loop-ix1.table
whole c =
    let outer = c.before.before.before in
    let start = outer.before in
    let o = outer.loop-ix1 in
    serif_within _ start.args.thresholds o.ix1 start.args.segments o.table (every-within _ start.requires) o.invariant.2 o.invariant.0

target : (c : In-Some)
    → c.in-Some.link1_ix < c.args.segments.len
target c =
    let in-outer = c.before.before in
    let outer = in-outer.before in
    let o = outer.loop-ix1 in
    to_below _ o.ix1 _ o.table (whole c) in-outer.loop-ix1-test.true c.in-Some.is

target2 : (c : In-Some-second)
    → c.in-Some-second.link2_ix < c.args.segments.len
target2 c =
    let in_inner = c.before.before in
    let inner = in_inner.before in
    let o = inner.loop-ix2 in
    to_below _ o.ix2 _ o.table o.invariant.4.within in_inner.loop-ix2-test.true c.in-Some-second.is

-- what the inner loop leaves, by its end or by the break
made : (c : Left-loop-ix2)
    → let outer = c.before.before.before.before.before.before.before.before in
    let t = outer.loop-ix1.table in
    let ix = outer.loop-ix1.ix1 in
    let link = c.in-Some.link1_ix in
    c.loop-ix2-test.table ≡ R.hold (segment_at t ix) (segment_at t link) ix link outer.args.segments.len t
made c =
    let p = c.loop-ix2.invariant in
    elim c.loop-ix2-test.branch [
      | else-loop-ix2-test w ↦ w.table-is ∙ H.held-end _ _ _ _ _ p.2 p.3 _ _ _ p.4 w.loop-ix2-test.false
      | then-loop-ix2-test+in-Some-second+else-not-encloses+else-is_much_longer w ↦
          w.table-is ∙ H.last_turn _ _ _ _ _ p.2 p.3 _ _ _ _ p.4 w.loop-ix2-test.true
          w.in-Some-second.is _ _ (sym w.encloses.ensures ∙ w.if-not-encloses.false) (sym w.is_much_longer.ensures ∙ w.if-is_much_longer.false)
          w.unlinked.ensures w.unlinked-in-loop-ix2.ensures
    ]

pub loop-ix1-init : goal.loop-ix1-init
loop-ix1-init c = (omega arith, c.requires.few, none _ _)

pub offset_bounds-table-ix1 : goal.offset_bounds-table-ix1
offset_bounds-table-ix1 c = omega arith

pub bounds-table-ix1 : goal.bounds-table-ix1
bounds-table-ix1 c = omega arith

pub overflow_step-ix1 : goal.overflow_step-ix1
overflow_step-ix1 c = omega arith

pub loop-ix1-smaller-in_default : goal.loop-ix1-smaller-in_default
loop-ix1-smaller-in_default c = omega arith

pub loop-ix1-preserved-in_default : goal.loop-ix1-preserved-in_default
loop-ix1-preserved-in_default c =
    let outer = c.before.before.before in
    let start = outer.before in (
      omega arith,
      outer.loop-ix1.invariant.1,
      turn (R.serif_turn start.args.thresholds start.args.segments.len) outer.loop-ix1.ix1 _ _ _ outer.loop-ix1.invariant.2
          (serif-none _ _ _ _ c.in_default.is),
    )

pub overflow_cast-at1 : goal.overflow_cast-at1
overflow_cast-at1 c = omega arith

pub offset_bounds-table-at1 : goal.offset_bounds-table-at1
offset_bounds-table-at1 c = omega arith

pub bounds-table-at1 : goal.bounds-table-at1
bounds-table-at1 c =
    let start = c.before.before.before.before in
    lt_of_lt_of_le (target c) start.requires.few

pub overflow_cast-ix1 : goal.overflow_cast-ix1
overflow_cast-ix1 c = omega arith

pub overflow_step-ix1-then-not-is_near_stem : goal.overflow_step-ix1-then-not-is_near_stem
overflow_step-ix1-then-not-is_near_stem c = omega arith

pub loop-ix1-smaller-then-not-is_near_stem : goal.loop-ix1-smaller-then-not-is_near_stem
loop-ix1-smaller-then-not-is_near_stem c = omega arith

pub loop-ix1-preserved-then-not-is_near_stem : goal.loop-ix1-preserved-then-not-is_near_stem
loop-ix1-preserved-then-not-is_near_stem c =
    let first = c.before.before.before in
    let outer = first.before.before.before in
    let start = outer.before in (
      omega arith,
      outer.loop-ix1.invariant.1,
      turn (R.serif_turn start.args.thresholds start.args.segments.len) outer.loop-ix1.ix1 _ _ _ outer.loop-ix1.invariant.2
          (serif-skip _ _ _ _ _ first.in-Some.is (sym c.is_near_stem.ensures ∙ c.if-not-is_near_stem.true)),
    )

pub loop-ix2-init : goal.loop-ix2-init
loop-ix2-init c =
    let known-told = c.before.before.before in
    let in-outer = known-told.before.before in
    let outer = in-outer.before in (
      omega arith,
      outer.loop-ix1.invariant.1,
      in-outer.loop-ix1-test.true,
      target known-told,
      H.start _ _ _ _ _ in-outer.loop-ix1-test.true (target known-told) _ (whole known-told),
    )

pub offset_bounds-table-ix2 : goal.offset_bounds-table-ix2
offset_bounds-table-ix2 c = omega arith

pub bounds-table-ix2 : goal.bounds-table-ix2
bounds-table-ix2 c = omega arith

pub overflow_step-ix2 : goal.overflow_step-ix2
overflow_step-ix2 c = omega arith

pub loop-ix2-smaller-in_default-second : goal.loop-ix2-smaller-in_default-second
loop-ix2-smaller-in_default-second c = omega arith

pub loop-ix2-preserved-in_default-second : goal.loop-ix2-preserved-in_default-second
loop-ix2-preserved-in_default-second c =
    let in_inner = c.before.before in
    let inner = in_inner.before in (
      omega arith,
      inner.loop-ix2.invariant.1,
      inner.loop-ix2.invariant.2,
      inner.loop-ix2.invariant.3,
      H.step-none _ _ _ _ _ inner.loop-ix2.invariant.2 inner.loop-ix2.invariant.3 _ _ _ inner.loop-ix2.invariant.4 in_inner.loop-ix2-test.true c.in_default-second.is,
    )

pub overflow_cast-at2 : goal.overflow_cast-at2
overflow_cast-at2 c = omega arith

pub offset_bounds-table-at2 : goal.offset_bounds-table-at2
offset_bounds-table-at2 c = omega arith

pub bounds-table-at2 : goal.bounds-table-at2
bounds-table-at2 c =
    let inner = c.before.before.before in
    lt_of_lt_of_le (target2 c) inner.loop-ix2.invariant.1

pub overflow_cast-ix1-in-loop-ix2 : goal.overflow_cast-ix1-in-loop-ix2
overflow_cast-ix1-in-loop-ix2 c = omega arith

pub overflow_cast-ix2 : goal.overflow_cast-ix2
overflow_cast-ix2 c = omega arith

pub encloses-requires : goal.encloses-requires
encloses-requires c =
    let known-told = c.before.before.before.before.before.before.before.before in
    ((whole known-told).each _ known-told.loop-ix1-test.true).score

pub overflow_step-ix2-then-not-encloses : goal.overflow_step-ix2-then-not-encloses
overflow_step-ix2-then-not-encloses c = omega arith

pub loop-ix2-smaller-then-not-encloses : goal.loop-ix2-smaller-then-not-encloses
loop-ix2-smaller-then-not-encloses c = omega arith

pub loop-ix2-preserved-then-not-encloses : goal.loop-ix2-preserved-then-not-encloses
loop-ix2-preserved-then-not-encloses c =
    let second = c.before.before.before in
    let in_inner = second.before.before in
    let inner = in_inner.before in (
      omega arith,
      inner.loop-ix2.invariant.1,
      inner.loop-ix2.invariant.2,
      inner.loop-ix2.invariant.3,
      H.step_skip _ _ _ _ _ inner.loop-ix2.invariant.2 inner.loop-ix2.invariant.3 _ _ _ _ inner.loop-ix2.invariant.4 in_inner.loop-ix2-test.true
          second.in-Some-second.is (sym c.encloses.ensures ∙ c.if-not-encloses.true),
    )

pub is_much_longer-requires : goal.is_much_longer-requires
is_much_longer-requires c =
    let in_inner = c.before.before.before.before.before in
    (in_inner.loop-ix2.invariant.4.within.each _ in_inner.loop-ix2-test.true).len

pub overflow_cast-ix2-then-is_much_longer : goal.overflow_cast-ix2-then-is_much_longer
overflow_cast-ix2-then-is_much_longer c = omega arith

pub overflow_cast-ix1-then-is_much_longer : goal.overflow_cast-ix1-then-is_much_longer
overflow_cast-ix1-then-is_much_longer c = omega arith

pub rewrite_links-table-requires : goal.rewrite_links-table-requires
rewrite_links-table-requires c =
    let inner = c.before.before.before.before.before.before.before.before in
    omega (arith, inner.loop-ix2.invariant.4.within.size)

pub overflow_step-ix2-then-is_much_longer : goal.overflow_step-ix2-then-is_much_longer
overflow_step-ix2-then-is_much_longer c = omega arith

pub loop-ix2-smaller : goal.loop-ix2-smaller
loop-ix2-smaller c = omega arith

pub loop-ix2-preserved : goal.loop-ix2-preserved
loop-ix2-preserved c =
    let is-much-longer = c.before.before in
    let else2 = is-much-longer.before in
    let encloses = else2.before in
    let second = encloses.before.before in
    let in_inner = second.before.before in
    let inner = in_inner.before in (
      omega arith,
      inner.loop-ix2.invariant.1,
      inner.loop-ix2.invariant.2,
      inner.loop-ix2.invariant.3,
      H.step-serifs _ _ _ _ _ inner.loop-ix2.invariant.2 inner.loop-ix2.invariant.3 _ _ _ _ inner.loop-ix2.invariant.4 in_inner.loop-ix2-test.true
          second.in-Some-second.is _ (sym encloses.encloses.ensures ∙ else2.if-not-encloses.false)
          (sym is-much-longer.is_much_longer.ensures ∙ c.if-is_much_longer.true)
          c.rewrite_links-table.ensures,
    )

pub offset_bounds-table-ix1-in-loop-ix2 : goal.offset_bounds-table-ix1-in-loop-ix2
offset_bounds-table-ix1-in-loop-ix2 c = omega arith

pub bounds-table-ix1-in-loop-ix2 : goal.bounds-table-ix1-in-loop-ix2
bounds-table-ix1-in-loop-ix2 c = omega arith

pub offset_bounds-table-ix1-in-loop-ix2-2 : goal.offset_bounds-table-ix1-in-loop-ix2-2
offset_bounds-table-ix1-in-loop-ix2-2 c = omega arith

pub bounds-table-ix1-in-loop-ix2-2 : goal.bounds-table-ix1-in-loop-ix2-2
bounds-table-ix1-in-loop-ix2-2 c = omega arith

pub offset_bounds-table-at1-in-loop-ix2 : goal.offset_bounds-table-at1-in-loop-ix2
offset_bounds-table-at1-in-loop-ix2 c = omega arith

pub bounds-table-at1-in-loop-ix2 : goal.bounds-table-at1-in-loop-ix2
bounds-table-at1-in-loop-ix2 c = omega arith

pub offset_bounds-table-at1-in-loop-ix2-2 : goal.offset_bounds-table-at1-in-loop-ix2-2
offset_bounds-table-at1-in-loop-ix2-2 c =
    let inner = c.before.before.before.before.before.before.before.before.before.before.before.before in
    omega (arith, inner.loop-ix2.invariant.3, inner.loop-ix2.invariant.1)

pub bounds-table-at1-in-loop-ix2-2 : goal.bounds-table-at1-in-loop-ix2-2
bounds-table-at1-in-loop-ix2-2 c =
    let inner = c.before.before.before.before.before.before.before.before.before.before.before.before in
    omega (arith, inner.loop-ix2.invariant.3, inner.loop-ix2.invariant.1)

pub overflow_step-ix1-in-loop-ix1 : goal.overflow_step-ix1-in-loop-ix1
overflow_step-ix1-in-loop-ix1 c = omega arith

pub loop-ix1-smaller : goal.loop-ix1-smaller
loop-ix1-smaller c = omega arith

pub loop-ix1-preserved : goal.loop-ix1-preserved
loop-ix1-preserved c =
    let else1 = c.before.before in
    let is-near-stem = else1.before in
    let first = is-near-stem.before.before in
    let outer = first.before.before.before in
    let start = outer.before in (
      omega arith,
      outer.loop-ix1.invariant.1,
      turn (R.serif_turn start.args.thresholds start.args.segments.len) outer.loop-ix1.ix1 _ _ _ outer.loop-ix1.invariant.2
          (serif-go _ _ _ _ _ _ first.in-Some.is (sym is-near-stem.is_near_stem.ensures ∙ else1.if-not-is_near_stem.false) (made c)),
    )

pub returns : goal.returns
unfolding R.serif_round
returns c = end _ _ _ _ _ c.loop-ix1.invariant.0 c.loop-ix1-test.false c.loop-ix1.invariant.2
