-- `pack::follow::enlist` meets its contract: number by number.
use borrow.Author.Tests.{not-true, not-false}
use native.Mathlib.Omega.{arith}
use Prim.Native.Nat.{◌-◌, ◌≤◌, ◌<◌}
use Rattle.axis.specs.Limits.{most_segments}
use Rattle.pack.proofs.Lists.{Listing, listing-few, listing-starts, listing-passes, listing-takes, listing-ends}
use Rattle.pack.proofs.follow.enlist.Goals as goal

pub loop-k-init : goal.loop-k-init
loop-k-init c = (omega arith, listing-starts _ _ c.requires.1)

pub bounds-kept-k : goal.bounds-kept-k
bounds-kept-k c = omega arith

pub overflow_step-k : goal.overflow_step-k
overflow_step-k c = omega arith

pub loop-k-smaller-then-not-kept-k : goal.loop-k-smaller-then-not-kept-k
loop-k-smaller-then-not-kept-k c = omega arith

pub loop-k-preserved-then-not-kept-k : goal.loop-k-preserved-then-not-kept-k
loop-k-preserved-then-not-kept-k c = (omega arith, listing-passes _ _ c.loop-k.len c.loop-k.k c.loop-k.invariant.1 c.if-not-kept-k.true)

pub overflow_cast-order : goal.overflow_cast-order
overflow_cast-order c = omega arith

pub offset_bounds-order-len : goal.offset_bounds-order-len
offset_bounds-order-len c =
    let has_room : c.loop-k.len < most_segments = omega (arith, listing-few c.loop-k.invariant.1, c.loop-k-test.true) in
    omega (arith, has_room)

pub bounds-order-len : goal.bounds-order-len
bounds-order-len c =
    let has_room : c.loop-k.len < most_segments = omega (arith, listing-few c.loop-k.invariant.1, c.loop-k-test.true) in
    omega (arith, has_room)

pub overflow_add-len : goal.overflow_add-len
overflow_add-len c =
    let has_room : c.loop-k.len < most_segments = omega (arith, listing-few c.loop-k.invariant.1, c.loop-k-test.true) in
    omega (arith, has_room)

pub overflow_step-k-in-loop-k : goal.overflow_step-k-in-loop-k
overflow_step-k-in-loop-k c = omega arith

pub loop-k-smaller : goal.loop-k-smaller
loop-k-smaller c = omega arith

pub loop-k-preserved : goal.loop-k-preserved
loop-k-preserved c = (omega arith, listing-takes _ _ c.loop-k.len c.loop-k.k c.loop-k.invariant.1 c.loop-k-test.true c.if-not-kept-k.false)

pub returns : goal.returns
returns c = listing-ends _ _ c.loop-k.len c.loop-k.k c.requires.0 (omega (arith, c.loop-k.invariant.0, c.loop-k-test.false)) c.loop-k.invariant.1
