-- `pack_steps_words::down::move_in` meets its contract: segment by segment.
use borrow.Author.Tests.{not-true, not-false}
use native.Mathlib.Omega.{arith}
use mathlib.Core.Path.{sym, ap, ◌∙◌}
use Prim.Native.Nat.{◌-◌, ◌≤◌, ◌<◌}
use lib.ListN.{length}
use Rattle.axis.specs.declared.segment.Segments.{Segments}
use Rattle.axis.specs.Limits.{most_segments}
use Rattle.pack.specs.Sets.{number_at}
use Rattle.pack.proofs.Stages.{stage, stage-none}
use Rattle.words.specs.Segment.{segments_in}
use Rattle.words.proofs.Segments.{segment-length}
use Rattle.words_segment.specs.Whole.{Became}
use Rattle.words_segment.proofs.Became.{stays}
use Rattle.pack_steps_words.proofs.Moves.{down-ready, new-room, down-room, one_down, none-down, all-down}
use Rattle.pack_steps_words.proofs.down.move_in.Goals as goal

pub loop-i-init : goal.loop-i-init
loop-i-init c = (omega arith, stays _ c.requires.0 (stage-none _))

pub bounds-kept-i : goal.bounds-kept-i
bounds-kept-i c =
    let below : c.loop-i.i < segments_in c.args.words.now = omega arith in
    let few : c.loop-i.i < most_segments = omega (arith, below, c.requires.0.few) in
    few

pub overflow_step-i : goal.overflow_step-i
overflow_step-i c = omega arith

pub loop-i-smaller-then-not-kept-i : goal.loop-i-smaller-then-not-kept-i
loop-i-smaller-then-not-kept-i c = omega arith

pub loop-i-preserved-then-not-kept-i : goal.loop-i-preserved-then-not-kept-i
loop-i-preserved-then-not-kept-i c =
    let below : c.loop-i.i < segments_in c.args.words.now = omega arith in (
      omega arith,
      none-down c.args.words.now c.requires.0 c.args.new.now c.requires.1 c.requires.3 _ c.loop-i.i below c.loop-i.invariant.1
          (sym (c.requires.2.at c.loop-i.i) ∙ c.if-not-kept-i.true),
    )

pub packed_words-packed-requires : goal.packed_words-packed-requires
packed_words-packed-requires c =
    let below : c.loop-i.i < segments_in c.args.words.now = omega arith in
    down-ready c.args.words.now c.requires.0 c.args.new.now c.requires.1 c.requires.3 _ c.loop-i.i below c.loop-i.invariant.1

pub overflow_mul-at : goal.overflow_mul-at
overflow_mul-at c =
    let below : c.loop-i.i < segments_in c.args.words.now = omega arith in
    let few : c.loop-i.i < most_segments = omega (arith, below, c.requires.0.few) in
    omega (arith, few)

pub bounds-new-i : goal.bounds-new-i
bounds-new-i c =
    let below : c.loop-i.i < segments_in c.args.words.now = omega arith in
    let few : c.loop-i.i < most_segments = omega (arith, below, c.requires.0.few) in
    few

pub overflow_cast-at : goal.overflow_cast-at
overflow_cast-at c =
    let below : c.loop-i.i < segments_in c.args.words.now = omega arith in
    let few : c.loop-i.i < most_segments = omega (arith, below, c.requires.0.few) in
    let moves : number_at c.args.new.now c.loop-i.i ≤ c.loop-i.i = new-room c.args.words.now c.requires.0 c.args.new.now c.requires.1 c.requires.3 _ c.loop-i.i below c.loop-i.invariant.1 in
    omega (arith, moves, few)

pub slice_bounds-write_words-end : goal.slice_bounds-write_words-end
slice_bounds-write_words-end c = sym (ap length c.packed_words-packed.ensures ∙ segment-length _)

pub write_words-requires : goal.write_words-requires
write_words-requires c =
    let below : c.loop-i.i < segments_in c.args.words.now = omega arith in
    omega (
      arith,
      ap length c.packed_words-packed.ensures ∙ segment-length _,
      down-room c.args.words.now c.requires.0 c.args.new.now c.requires.1 c.requires.3 _ c.loop-i.i below c.loop-i.invariant.1,
    )

pub overflow_step-i-in-loop-i : goal.overflow_step-i-in-loop-i
overflow_step-i-in-loop-i c = omega arith

pub loop-i-smaller : goal.loop-i-smaller
loop-i-smaller c = omega arith

pub loop-i-preserved : goal.loop-i-preserved
loop-i-preserved c =
    let below : c.loop-i.i < segments_in c.args.words.now = omega arith in (
      omega arith,
      one_down c.args.words.now c.requires.0 c.args.new.now c.requires.1 c.requires.3 _ c.loop-i.i below c.loop-i.invariant.1
          c.packed_words-packed.result _
          (sym (c.requires.2.at c.loop-i.i) ∙ c.if-not-kept-i.false) c.packed_words-packed.ensures c.write_words.ensures,
    )

pub shape_of-words : goal.shape_of-words
shape_of-words c = c.loop-i.invariant.1.long

pub returns : goal.returns
returns c = all-down c.args.words.now c.requires.0 _ c.loop-i.i c.loop-i.invariant.0 (omega arith) c.loop-i.invariant.1
