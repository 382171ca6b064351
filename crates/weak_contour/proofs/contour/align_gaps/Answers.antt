-- `weak_contour::contour::align_gaps` meets its contract. The invariant: the points up to the last touched one found are aligned.
use borrow.Author.Rules.{rules}
use native.Mathlib.Omega.{arith}
use mathlib.Core.Path.{◌≡◌, ◌∙◌}
use Prim.Native.Nat.{◌+◌, ◌-◌}
use lib.ListN.{length}
use Rattle.weak_contour.specs.Steps.{Next, Upto}
use Rattle.weak_contour.proofs.Stretch.{upto-first, upto_next, at_p, at-q, gentle-gap}
use Rattle.weak_contour.proofs.contour.align_gaps.Goals as goal

pub loop-next-init : goal.loop-next-init
loop-next-init c = (
  upto-first c.args.originals.now c.args.currents.now c.args.touched.now c.args.first (omega arith) c.requires.first_in_bounds.1,
  c.next_touched-next.ensures,
)

pub interpolate_some-requires : goal.interpolate_some-requires
interpolate_some-requires c = let l = c.loop-next in
    let u = l.invariant.0 in
    let x = l.invariant.1 in
    let r = c.requires.coordinates in
    record {
      currents_len = (u.len ∙ c.requires.currents_len.0, x.low, omega arith);
      ref1_in_bounds = (omega (arith, u.high), omega arith);
      coordinates = (
        r.0,
        rw (at_p _ _ _ _ _ _ _ u x) (r.1 l.last),
        rw (at-q _ _ _ _ _ _ _ u x) (r.1 l.next),
        gentle-gap _
            _ _ _ _ _ _ u x r.2 (omega arith),
      );
    }

pub loop-next-preserved : goal.loop-next-preserved
loop-next-preserved c = let l = c.loop-next in
    (upto_next _ _ _ _ _ _ _ l.invariant.0 l.invariant.1 _ c.loop-next-test.true c.interpolate_some.ensures, c.next_touched-next-in-loop-next.ensures)

pub shape_of-currents : goal.shape_of-currents
shape_of-currents c = c.loop-next.invariant.0.len

pub returns : goal.returns
returns c = let l = c.loop-next in
    let e : l.next ≡ length c.args.touched.now = omega (arith, l.invariant.1.high) in
    (l.invariant.0, rw e at l.invariant.1)
