-- `weak_contour::steep::contour_steep` meets its contract. The invariant: no point up to the last touched one found is too steep.
use borrow.Author.Rules.{rules}
use native.Mathlib.Omega.{arith}
use mathlib.Core.Path.{◌≡◌}
use Prim.Native.Nat.{◌+◌, ◌-◌, ◌≤◌}
use lib.ListN.{length}
use Rattle.weak_contour.specs.Steps.{Next}
use Rattle.weak_contour.proofs.Steepness.{Walked, walked_none, walked-first, walked_next, gap-found, behind-found, walked_all}
use Rattle.weak_contour.proofs.steep.contour_steep.Goals as goal

pub returns-then-n-first : goal.returns-then-n-first
returns-then-n-first c = let a = c.args in
    let x = c.next_touched-first.ensures in
    let e : c.next_touched-first.result ≡ length a.touched.now = omega (arith, x.high) in
    walked_none a.originals.now a.currents.now a.touched.now (rw e at x)

pub next_touched-next-requires : goal.next_touched-next-requires
next_touched-next-requires c = omega arith

pub loop-next-init : goal.loop-next-init
loop-next-init c = let a = c.args in
    let x0 = c.next_touched-first.ensures in (
      walked-first a.originals.now a.currents.now a.touched.now c.next_touched-first.result (omega arith) (x0.here (omega arith)),
      c.next_touched-next.ensures,
      x0,
    )

pub stretch_steep-requires : goal.stretch_steep-requires
stretch_steep-requires c = let w = c.loop-next.invariant.0 in
    let x = c.loop-next.invariant.1 in
    record {
      currents_len = (c.requires.currents_len.0, x.low, omega arith);
      ref1_in_bounds = (omega (arith, w.high), omega arith);
      coordinates = c.requires.coordinates;
    }

pub returns-then-stretch_steep : goal.returns-then-stretch_steep
returns-then-stretch_steep c = let a = c.args in
    gap-found a.originals.now a.currents.now a.touched.now _ _ _ c.loop-next.invariant.0 c.loop-next.invariant.1 c.loop-next-test.true _ c.if-stretch_steep.true
    c.stretch_steep.ensures

pub next_touched-next-requires-in-loop-next : goal.next_touched-next-requires-in-loop-next
next_touched-next-requires-in-loop-next c = omega arith

pub loop-next-preserved : goal.loop-next-preserved
loop-next-preserved c = let a = c.args in (
  walked_next a.originals.now a.currents.now a.touched.now _ _ _ c.loop-next.invariant.0 c.loop-next.invariant.1 c.loop-next-test.true _ c.if-stretch_steep.false
      c.stretch_steep.ensures,
  c.next_touched-next-in-loop-next.ensures,
  c.loop-next.invariant.2,
)

pub stretch_steep-requires-2 : goal.stretch_steep-requires-2
stretch_steep-requires-2 c = let w = c.loop-next.invariant.0 in
    record {
      currents_len = (c.requires.currents_len.0, omega (arith, w.high), omega arith);
      ref1_in_bounds = (omega (arith, w.high), omega (arith, w.low, w.high));
      coordinates = c.requires.coordinates;
    }

pub returns-then-stretch_steep-2 : goal.returns-then-stretch_steep-2
returns-then-stretch_steep-2 c =
    let ends : length c.args.touched.now ≤ c.loop-next.next
    → Next c.args.touched.now (c.loop-next.last + 1) (length c.args.touched.now) = λ h. let e : c.loop-next.next ≡ length c.args.touched.now = omega (arith, c.loop-next.invariant.1.high) in rw e at c.loop-next.invariant.1 in
    let a = c.args in
    behind-found a.originals.now a.currents.now a.touched.now _ _ c.loop-next.invariant.2 c.loop-next.invariant.0 (ends (omega arith)) _ c.if-stretch_steep-2.true
    c.stretch_steep-2.ensures

pub stretch_steep-requires-3 : goal.stretch_steep-requires-3
stretch_steep-requires-3 c = let w = c.loop-next.invariant.0 in
    record {
      currents_len = (c.requires.currents_len.0, omega arith, omega (arith, w.low, w.high));
      ref1_in_bounds = (omega (arith, w.high), omega (arith, w.low, w.high));
      coordinates = c.requires.coordinates;
    }

pub returns : goal.returns
returns c =
    let ends : length c.args.touched.now ≤ c.loop-next.next
    → Next c.args.touched.now (c.loop-next.last + 1) (length c.args.touched.now) = λ h. let e : c.loop-next.next ≡ length c.args.touched.now = omega (arith, c.loop-next.invariant.1.high) in rw e at c.loop-next.invariant.1 in
    let a = c.args in
    walked_all a.originals.now a.currents.now a.touched.now _ _ c.loop-next.invariant.2 c.loop-next.invariant.0 (ends (omega arith)) _ _ c.if-stretch_steep-2.false
    c.stretch_steep-2.ensures c.stretch_steep-3.ensures
