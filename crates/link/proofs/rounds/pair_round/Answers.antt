-- `link::rounds::pair_round` meets its contract: each inner turn tests one pair, and segments stay within the table.
use borrow.Author.Tests.{not-true, not-false}
use native.Mathlib.Omega.{arith}
use mathlib.Core.Path.{sym, ◌∙◌}
use Prim.Native.Nat.{◌-◌}
use Rattle.axis.proofs.Equal.{same-directions}
use Rattle.signed.specs.Range.{Between}
use Rattle.axis.specs.Limits.{most_score}
use Rattle.link.specs.Rounds as R
use Rattle.link.proofs.Loops.{none, turn, end}
use Rattle.link.proofs.Within.{stem-dist, pair-within, every-within, all-within}
use Rattle.link.proofs.Turns.{pair-skip, pair-go, major-skip, major-go}
use Rattle.link.proofs.rounds.pair_round.Goals as goal
use Rattle.link.proofs.rounds.pair_round.Goals.{Else-not-can_be_stem}

pub loop-ix1-init : goal.loop-ix1-init
loop-ix1-init c = (omega arith, c.requires.segments_within.few, none _ _, every-within _ c.requires.segments_within)

pub loop-ix1-preserved-then-ne : goal.loop-ix1-preserved-then-ne
loop-ix1-preserved-then-ne c = (
  omega arith,
  c.loop-ix1.invariant.1,
  turn (R.major_turn c.args.major_dir c.args.thresholds c.args.segments.len) c.loop-ix1.ix1 _ _ _ c.loop-ix1.invariant.2
      (major-skip _ _ _ _ _ (sym (same-directions _ _) ∙ not-true _ (sym c.ne.ensures ∙ c.if-ne.true))),
  c.loop-ix1.invariant.3,
)

pub loop-ix2-init : goal.loop-ix2-init
loop-ix2-init c = (omega arith, omega arith, none _ _, c.loop-ix1.invariant.3)

pub loop-ix2-preserved-then-not-can_be_stem : goal.loop-ix2-preserved-then-not-can_be_stem
loop-ix2-preserved-then-not-can_be_stem c =
    let gap-between = c.before.before in
    let inner = gap-between.before.before.before.before in
    let outer = inner.before.before.before.before.before in
    let start = outer.before in (
      omega arith,
      inner.loop-ix2.invariant.1,
      turn (R.pair_turn start.args.thresholds _ outer.loop-ix1.ix1) inner.loop-ix2.ix2 _ _ _ inner.loop-ix2.invariant.2
          (pair-skip _ _ _ _ _ _ gap-between.gap_between-gap.ensures.value (sym c.can_be_stem.ensures ∙ c.if-not-can_be_stem.true)),
      inner.loop-ix2.invariant.3,
    )

-- the distance of two segments that can be a stem
dist-within : (c : Else-not-can_be_stem) → Between 0 most_score c.gap_between-gap.result.dist
dist-within c = stem-dist _ _ _ _ _ _ (sym c.can_be_stem.ensures ∙ c.if-not-can_be_stem.false) c.gap_between-gap.ensures.reach

pub improved-requires : goal.improved-requires
improved-requires c =
    let gap-between = c.before.before in
    let inner = gap-between.before.before.before.before in
    record {
      between = (inner.loop-ix2.invariant.3.each _ inner.loop-ix1-test.true).score;
      between_2 = dist-within c;
    }

pub improved-requires-in-loop-ix2 : goal.improved-requires-in-loop-ix2
improved-requires-in-loop-ix2 c =
    let in_inner = c.before.before.before.before.before.before in
    record {
      between = (in_inner.loop-ix2.invariant.3.each _ in_inner.loop-ix2-test.true).score;
      between_2 = dist-within c.before;
    }

pub loop-ix2-preserved : goal.loop-ix2-preserved
loop-ix2-preserved c =
    let else2 = c.before.before in
    let can-be-stem = else2.before in
    let gap-between = can-be-stem.before in
    let in_inner = gap-between.before.before.before in
    let inner = in_inner.before in
    let in-outer = inner.before.before.before.before in
    let outer = in-outer.before in
    let start = outer.before in
    let facing = sym can-be-stem.can_be_stem.ensures ∙ else2.if-not-can_be_stem.false in (
      omega arith,
      inner.loop-ix2.invariant.1,
      turn (R.pair_turn start.args.thresholds _ outer.loop-ix1.ix1) inner.loop-ix2.ix2 _ _ _ inner.loop-ix2.invariant.2
          (pair-go _ _ _ _ _ _ gap-between.gap_between-gap.ensures.value _ _ facing c.improved.ensures c.improved-in-loop-ix2.ensures),
      pair-within _ start.args.thresholds _ _ _ _ _ _ in-outer.loop-ix1-test.true in_inner.loop-ix2-test.true start.requires.pos_bound inner.loop-ix2.invariant.3
          gap-between.gap_between-gap.ensures.reach facing c.improved.ensures c.improved-in-loop-ix2.ensures,
    )

pub loop-ix1-preserved : goal.loop-ix1-preserved
loop-ix1-preserved c =
    let else1 = c.before.before in
    let outer = else1.before.before.before.before in (
      omega arith,
      outer.loop-ix1.invariant.1,
      turn (R.major_turn c.args.major_dir c.args.thresholds c.args.segments.len) outer.loop-ix1.ix1 _ _ _ outer.loop-ix1.invariant.2
          (major-go _ _ _ _ _ _ (sym (same-directions _ _) ∙ not-false _ (sym c.ne.ensures ∙ c.if-ne.false))
          (end _ _ _ _ _ c.loop-ix2.invariant.0 c.loop-ix2-test.false c.loop-ix2.invariant.2)),
      c.loop-ix2.invariant.3,
    )

pub returns : goal.returns
unfolding R.pair_round
returns c =
    let outer = c.loop-ix1 in
    record {
      value = end _ _ _ _ _ outer.invariant.0 c.loop-ix1-test.false outer.invariant.2;
      segments_within_2 = all-within _ _ outer.invariant.1 outer.invariant.3;
    }
