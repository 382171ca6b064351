-- `mend::rebuild::rebuild` meets its contract: each turn leads one segment, from the highest down.
use mathlib.Core.Path.{◌≡◌, refl, sym, ap, ◌∙◌}
use mathlib.Core.Bool.{true, false}
use Prim.Native.Nat.{◌≤◌, ◌<◌, ◌-◌, ◌+◌}
use native.Mathlib.Omega.{arith}
use borrow.Author.Rules.{rules}
use borrow.Author.Tests.{not-true, not-false}
use lib.ListN.{length, length-set}
use Rattle.axis.specs.Limits.{most_edges, most_segments}
use Rattle.mend.proofs.Leads.{LedFrom, led-start, led-beyond, led-sound, led-more, led-all}
use Rattle.mend.proofs.rebuild.rebuild.Goals as goal

pub loop-i-init : goal.loop-i-init
loop-i-init c = (omega arith, c.requires.0, led-start _ _ _ _ _ c.requires.1 c.requires.2)

pub offset_bounds-edges-i : goal.offset_bounds-edges-i
offset_bounds-edges-i c = omega arith

pub bounds-edges-i : goal.bounds-edges-i
bounds-edges-i c = omega arith

pub loop-i-smaller-then-k-ge-MOST_EDGES : goal.loop-i-smaller-then-k-ge-MOST_EDGES
loop-i-smaller-then-k-ge-MOST_EDGES c = omega arith

pub loop-i-preserved-then-k-ge-MOST_EDGES : goal.loop-i-preserved-then-k-ge-MOST_EDGES
loop-i-preserved-then-k-ge-MOST_EDGES c =
    let place = c in
    let test = place in
    let l = test.loop-i in (
      omega arith,
      l.invariant.1,
      led-beyond _ _ _ _ _ _ l.invariant.2 test.loop-i-test.true l.invariant.0 l.invariant.1
          (omega (arith, c.if-k-ge-MOST_EDGES.true, place.place-k.ensures)),
    )

pub bounds-broken-k : goal.bounds-broken-k
bounds-broken-k c = omega arith

pub loop-i-smaller-then-not-broken-k : goal.loop-i-smaller-then-not-broken-k
loop-i-smaller-then-not-broken-k c = omega arith

pub loop-i-preserved-then-not-broken-k : goal.loop-i-preserved-then-not-broken-k
loop-i-preserved-then-not-broken-k c =
    let place = c in
    let test = place in
    let l = test.loop-i in (
      omega arith,
      l.invariant.1,
      led-sound _ _ _ _ _ _ l.invariant.2 test.loop-i-test.true l.invariant.0 l.invariant.1 _ place.place-k.ensures
          (c.if-not-broken-k.true),
    )

pub offset_bounds-seen-k : goal.offset_bounds-seen-k
offset_bounds-seen-k c = omega arith

pub bounds-seen-k : goal.bounds-seen-k
bounds-seen-k c = omega arith

pub offset_bounds-next-i : goal.offset_bounds-next-i
offset_bounds-next-i c = omega arith

pub bounds-next-i : goal.bounds-next-i
bounds-next-i c = omega arith

pub overflow_cast-seen : goal.overflow_cast-seen
overflow_cast-seen c = omega arith

pub offset_bounds-seen-k-in-loop-i : goal.offset_bounds-seen-k-in-loop-i
offset_bounds-seen-k-in-loop-i c = omega arith

pub bounds-seen-k-in-loop-i : goal.bounds-seen-k-in-loop-i
bounds-seen-k-in-loop-i c = omega arith

pub loop-i-smaller : goal.loop-i-smaller
loop-i-smaller c = omega arith

pub loop-i-preserved : goal.loop-i-preserved
loop-i-preserved c =
    let place = c in
    let test = place in
    let l = test.loop-i in (
      omega arith,
      l.invariant.1,
      led-more _ _ _ _ _ _ l.invariant.2 test.loop-i-test.true l.invariant.0 l.invariant.1 _ place.place-k.ensures
          c.if-k-ge-MOST_EDGES.false (c.if-not-broken-k.false),
    )

pub returns : goal.returns
returns c = let l = c.loop-i.invariant in led-all _ _ _ _ _ c.loop-i-test.false l.2
