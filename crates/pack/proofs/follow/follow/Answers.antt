-- `pack::follow::follow` meets its contract: each number on the list is followed once.
use native.Mathlib.Omega.{arith}
use mathlib.Core.Path.{refl}
use Prim.Native.Nat.{◌-◌, ◌<◌}
use Rattle.axis.specs.Limits.{most_segments}
use Rattle.pack.specs.Sets.{number_at}
use Rattle.pack.proofs.Lists.{in-places}
use Rattle.pack.proofs.Follows.{Following, listed-few, follow-starts, follow-next, follow-ends}
use Rattle.pack.proofs.follow.follow.Goals as goal

pub enlist-len-requires : goal.enlist-len-requires
enlist-len-requires c = (c.requires.0, refl)

pub loop-at-init : goal.loop-at-init
loop-at-init c = follow-starts _ _ _ _ c.enlist-len.result c.enlist-len.ensures

pub offset_bounds-order-at : goal.offset_bounds-order-at
offset_bounds-order-at c =
    let placed : c.loop-at.at < most_segments = omega (arith, c.loop-at-test.true, listed-few c.loop-at.invariant.listed) in
    omega (arith, placed)

pub bounds-order-at : goal.bounds-order-at
bounds-order-at c =
    let placed : c.loop-at.at < most_segments = omega (arith, c.loop-at-test.true, listed-few c.loop-at.invariant.listed) in
    placed

pub overflow_cast-i : goal.overflow_cast-i
overflow_cast-i c =
    let inside : number_at c.loop-at.order c.loop-at.at < most_segments = let l = c.loop-at.invariant.listed in
    omega (arith, in-places c.loop-at.kept _ (l.member c.loop-at.at c.loop-at-test.true), l.places) in
    omega (arith, inside)

pub offset_bounds-links-i : goal.offset_bounds-links-i
offset_bounds-links-i c =
    let inside : number_at c.loop-at.order c.loop-at.at < most_segments = let l = c.loop-at.invariant.listed in
    omega (arith, in-places c.loop-at.kept _ (l.member c.loop-at.at c.loop-at-test.true), l.places) in
    omega (arith, inside)

pub bounds-links-i : goal.bounds-links-i
bounds-links-i c =
    let inside : number_at c.loop-at.order c.loop-at.at < most_segments = let l = c.loop-at.invariant.listed in
    omega (arith, in-places c.loop-at.kept _ (l.member c.loop-at.at c.loop-at-test.true), l.places) in
    inside

pub reach-len-requires : goal.reach-len-requires
reach-len-requires c = (c.loop-at.invariant.listed, c.requires.1.at _)

pub offset_bounds-serifs-i : goal.offset_bounds-serifs-i
offset_bounds-serifs-i c =
    let inside : number_at c.loop-at.order c.loop-at.at < most_segments = let l = c.loop-at.invariant.listed in
    omega (arith, in-places c.loop-at.kept _ (l.member c.loop-at.at c.loop-at-test.true), l.places) in
    omega (arith, inside)

pub bounds-serifs-i : goal.bounds-serifs-i
bounds-serifs-i c =
    let inside : number_at c.loop-at.order c.loop-at.at < most_segments = let l = c.loop-at.invariant.listed in
    omega (arith, in-places c.loop-at.kept _ (l.member c.loop-at.at c.loop-at-test.true), l.places) in
    inside

pub reach-len-requires-in-loop-at : goal.reach-len-requires-in-loop-at
reach-len-requires-in-loop-at c = (c.reach-len.ensures.listed, c.requires.2.at _)

pub overflow_add-at : goal.overflow_add-at
overflow_add-at c =
    let placed : c.loop-at.at < most_segments = omega (arith, c.loop-at-test.true, listed-few c.loop-at.invariant.listed) in
    omega (arith, placed)

pub loop-at-smaller : goal.loop-at-smaller
loop-at-smaller c =
    let placed : c.loop-at.at < most_segments = omega (arith, c.loop-at-test.true, listed-few c.loop-at.invariant.listed) in
    omega (arith, placed)

pub loop-at-preserved : goal.loop-at-preserved
loop-at-preserved c = let l = c.loop-at in
    follow-next _ _ _ _ _ l.len l.at l.invariant c.loop-at-test.true _ _ c.reach-len.result c.reach-len.ensures _ _ c.reach-len-in-loop-at.result
    c.reach-len-in-loop-at.ensures

pub returns : goal.returns
returns c = let l = c.loop-at in follow-ends _ _ _ _ _ l.len l.at l.invariant c.loop-at-test.false
