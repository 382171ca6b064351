-- `build_join_words::join::join_loop` meets its contract: the lists are those of the state before each segment.
use native.Mathlib.Omega.{arith}
use mathlib.Core.Path.{◌≡◌, sym, ap, ◌∙◌}
use mathlib.Core.Bool.{false}
use Prim.Native.Nat.{◌-◌, ◌≤◌, ◌<◌}
use Rattle.axis.specs.Limits.{most_segments}
use Rattle.build_join.specs.Joining.{after, state_at}
use Rattle.words.specs.Segment.{segments_in, flat_segments}
use Rattle.build_join_words.specs.Lists.{Placed, Before}
use Rattle.build_join_words.proofs.Readings.{segments-len}
use Rattle.build_join_words.proofs.Listings.{placed-as, placed-if}
use Rattle.build_join_words.proofs.Visits.{visit-left-out}
use Rattle.build_join_words.proofs.Loops.{full-stays}
use borrow.Author.Rules.{rules}
use Rattle.build_join_words.proofs.join.join_loop.Goals as goal

pub loop-i-init : goal.loop-i-init
unfolding after
loop-i-init c = (omega arith, c.requires.1)

pub overflow_cast-i : goal.overflow_cast-i
overflow_cast-i c =
    let low : c.loop-i.i < most_segments = omega (arith, c.loop-i-test.true, c.requires.0.within.few, segments-len c.args.words.now) in
    omega (arith, low)

pub is_left_out-requires : goal.is_left_out-requires
is_left_out-requires c = c.loop-i-test.true

pub overflow_step-i : goal.overflow_step-i
overflow_step-i c = omega arith

pub loop-i-smaller-then-is_left_out : goal.loop-i-smaller-then-is_left_out
loop-i-smaller-then-is_left_out c = omega arith

pub loop-i-preserved-then-is_left_out : goal.loop-i-preserved-then-is_left_out
loop-i-preserved-then-is_left_out c =
    let before : let g = c.args in
    let o = c.loop-i in
    Before g.words.now g.rules g.second o.i o.places o.first o.last o.next o.count = record { ready = c.requires.0; inside = c.loop-i-test.true; placed = c.loop-i.invariant.1 } in
    (omega arith, visit-left-out before (sym c.is_left_out.ensures ∙ c.if-is_left_out.true))

pub overflow_cast-i-in-loop-i : goal.overflow_cast-i-in-loop-i
overflow_cast-i-in-loop-i c =
    let low : c.loop-i.i < most_segments = omega (arith, c.loop-i-test.true, c.requires.0.within.few, segments-len c.args.words.now) in
    omega (arith, low)

pub visit_in-joined-requires : goal.visit_in-joined-requires
visit_in-joined-requires c =
    let before : let g = c.args in
    let o = c.loop-i in
    Before g.words.now g.rules g.second o.i o.places o.first o.last o.next o.count = record { ready = c.requires.0; inside = c.loop-i-test.true; placed = c.loop-i.invariant.1 } in
    before

pub returns-then-joined : goal.returns-then-joined
returns-then-joined c = full-stays _ _ _ _ _ c.loop-i-test.true c.if-joined.true c.visit_in-joined.ensures

pub overflow_step-i-in-loop-i : goal.overflow_step-i-in-loop-i
overflow_step-i-in-loop-i c = omega arith

pub loop-i-smaller : goal.loop-i-smaller
loop-i-smaller c = omega arith

pub loop-i-preserved : goal.loop-i-preserved
loop-i-preserved c = (omega arith, placed-if c.visit_in-joined.ensures c.if-joined.false)

pub returns : goal.returns
returns c = let g = c.args in
    let e : c.loop-i.i ≡ segments_in g.words.now = omega arith in
    placed-as c.loop-i.invariant.1 (ap (state_at (flat_segments g.words.now) g.rules g.second) e)
