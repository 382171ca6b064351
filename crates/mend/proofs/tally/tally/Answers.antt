-- `mend::tally::tally` meets its contract: each turn counts one segment.
use mathlib.Core.Path.{◌≡◌, refl, sym, ap, ◌∙◌}
use Prim.Native.Nat.{◌≤◌, ◌<◌, ◌-◌}
use native.Mathlib.Omega.{arith}
use borrow.Author.Rules.{rules}
use lib.ListN.{length, length-set}
use Rattle.axis.specs.Limits.{most_edges, most_segments}
use Rattle.mend.specs.Rebuilt.{Tallied}
use Rattle.mend.proofs.Tallies.{tallied-none, tallied-skip, tallied-more, tallied-few, tallied-all}
use Rattle.mend.proofs.tally.tally.Goals as goal

pub loop-i-init : goal.loop-i-init
loop-i-init c = (omega arith, c.requires.0, tallied-none _ c.requires.1 c.requires.2 c.requires.3)

pub offset_bounds-edges-i : goal.offset_bounds-edges-i
offset_bounds-edges-i c = omega arith

pub bounds-edges-i : goal.bounds-edges-i
bounds-edges-i c = omega arith

pub overflow_step-i : goal.overflow_step-i
overflow_step-i c = omega arith

pub loop-i-smaller-then-k-ge-MOST_EDGES : goal.loop-i-smaller-then-k-ge-MOST_EDGES
loop-i-smaller-then-k-ge-MOST_EDGES c = omega arith

pub loop-i-preserved-then-k-ge-MOST_EDGES : goal.loop-i-preserved-then-k-ge-MOST_EDGES
loop-i-preserved-then-k-ge-MOST_EDGES c = let l = c.loop-i in
    (omega arith, l.invariant.1, tallied-skip _ _ l.invariant.2 (omega (arith, c.if-k-ge-MOST_EDGES.true, c.place-k.ensures)))

pub offset_bounds-counts-k : goal.offset_bounds-counts-k
offset_bounds-counts-k c = omega arith

pub bounds-counts-k : goal.bounds-counts-k
bounds-counts-k c = omega arith

pub offset_bounds-lows-k : goal.offset_bounds-lows-k
offset_bounds-lows-k c = omega arith

pub bounds-lows-k : goal.bounds-lows-k
bounds-lows-k c = omega arith

pub overflow_cast-i : goal.overflow_cast-i
overflow_cast-i c = omega arith

pub offset_bounds-lows-k-in-loop-i : goal.offset_bounds-lows-k-in-loop-i
offset_bounds-lows-k-in-loop-i c = omega arith

pub bounds-lows-k-in-loop-i : goal.bounds-lows-k-in-loop-i
bounds-lows-k-in-loop-i c = omega arith

pub overflow_cast-highs : goal.overflow_cast-highs
overflow_cast-highs c = omega arith

pub offset_bounds-highs-k : goal.offset_bounds-highs-k
offset_bounds-highs-k c = omega arith

pub bounds-highs-k : goal.bounds-highs-k
bounds-highs-k c = omega arith

pub overflow_add-counts : goal.overflow_add-counts
overflow_add-counts c =
    let place-below : c.place-k.result < most_edges = c.if-k-ge-MOST_EDGES.false in
    let l = c.loop-i in
    omega (arith, tallied-few _ l.invariant.2 place-below)

pub offset_bounds-counts-k-in-loop-i : goal.offset_bounds-counts-k-in-loop-i
offset_bounds-counts-k-in-loop-i c = omega arith

pub bounds-counts-k-in-loop-i : goal.bounds-counts-k-in-loop-i
bounds-counts-k-in-loop-i c = omega arith

pub overflow_step-i-in-loop-i : goal.overflow_step-i-in-loop-i
overflow_step-i-in-loop-i c = omega arith

pub loop-i-smaller : goal.loop-i-smaller
loop-i-smaller c = omega arith

pub loop-i-preserved : goal.loop-i-preserved
loop-i-preserved c =
    let place-below : c.place-k.result < most_edges = c.if-k-ge-MOST_EDGES.false in
    let l = c.loop-i in (
      omega arith,
      l.invariant.1,
      tallied-more _ _ l.invariant.2 _ (sym c.place-k.ensures) place-below _ _ _ refl c.lower.ensures refl,
    )

pub returns : goal.returns
returns c = let l = c.loop-i.invariant in tallied-all _ l.0 c.loop-i-test.false l.2
