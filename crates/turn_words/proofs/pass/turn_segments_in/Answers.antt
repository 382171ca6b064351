-- `turn_words::pass::turn_segments_in` meets its contract: each turn renumbers one edge.
use mathlib.Core.Path.{◌≡◌, refl}
use mathlib.Core.Bool.{true}
use Prim.Native.Nat.{◌≤◌, ◌<◌, ◌-◌}
use native.Mathlib.Omega.{arith}
use borrow.Author.Rules.{rules}
use Rattle.axis.specs.declared.segment.Segments.{Segments}
use Rattle.axis.specs.Refusals.{link_holds}
use Rattle.turn.proofs.Places.{segments_to}
use Rattle.words.specs.Segment.{segments_in}
use Rattle.words_segment.specs.Whole.{Became}
use Rattle.words_segment.proofs.Became.{stays, below_in}
use Rattle.turn_words.proofs.Turns.{next-holds, turned-in, one_more, all-turned}
use Rattle.turn_words.proofs.pass.turn_segments_in.Goals as goal

pub loop-i-init : goal.loop-i-init
loop-i-init c = (omega arith, stays _ c.requires.0 refl)

pub overflow_mul-i : goal.overflow_mul-i
overflow_mul-i c = omega (arith, c.requires.0.few)

pub overflow_add-i : goal.overflow_add-i
overflow_add-i c = omega (arith, c.requires.0.few)

pub turned_link-turned-requires : goal.turned_link-turned-requires
turned_link-turned-requires c =
    let below : c.loop-i.i < segments_in c.args.segments.now = omega arith in
    let held : link_holds c.args.count c.link_at-edge.result ≡ true =
    next-holds _ c.args.segments.now c.requires.0 _ c.loop-i.i below c.loop-i.invariant.1 _ c.requires.2 c.link_at-edge.ensures in
    (c.requires.1, held)

pub put_edge-requires : goal.put_edge-requires
put_edge-requires c =
    let below : c.loop-i.i < segments_in c.args.segments.now = omega arith in
    let held : link_holds c.args.count c.link_at-edge.result ≡ true =
    next-holds _ c.args.segments.now c.requires.0 _ c.loop-i.i below c.loop-i.invariant.1 _ c.requires.2 c.link_at-edge.ensures in (
      c.loop-i.invariant.1.whole,
      below_in c.loop-i.i c.loop-i.invariant.1 below,
      turned-in _ _ _ c.requires.1 held
          c.turned_link-turned.ensures,
    )

pub overflow_step-i : goal.overflow_step-i
overflow_step-i c = omega arith

pub loop-i-smaller : goal.loop-i-smaller
loop-i-smaller c = omega arith

pub loop-i-preserved : goal.loop-i-preserved
loop-i-preserved c =
    let below : c.loop-i.i < segments_in c.args.segments.now = omega arith in (
      omega arith,
      one_more _ c.args.segments.now c.requires.0 _ c.loop-i.i below c.loop-i.invariant.1 _ _ _ c.link_at-edge.ensures c.turned_link-turned.ensures
          c.put_edge.ensures,
    )

pub shape_of-segments : goal.shape_of-segments
shape_of-segments c = c.loop-i.invariant.1.long

pub returns : goal.returns
returns c = all-turned _ c.args.segments.now c.requires.0 _ c.loop-i.i c.loop-i.invariant.0 (omega arith) c.loop-i.invariant.1
