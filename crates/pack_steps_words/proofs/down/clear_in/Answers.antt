-- `pack_steps_words::down::clear_in` meets its contract: place by place.
use native.Mathlib.Omega.{arith}
use mathlib.Core.Path.{refl}
use Prim.Native.Nat.{◌-◌, ◌≤◌, ◌<◌}
use Rattle.axis.specs.declared.segment.Segments.{Segments}
use Rattle.pack.proofs.Stages.{emptied, emptied-none}
use Rattle.words.specs.Field.{flags_word}
use Rattle.words.specs.Segment.{segments_in, segment_words}
use Rattle.words_segment.specs.Whole.{Became}
use Rattle.words_segment.proofs.Became.{stays, count_in}
use Rattle.words_segment.proofs.Wholes.{room}
use Rattle.pack_steps_words.proofs.Moves.{one-empty, all-empty}
use Rattle.pack_steps_words.proofs.down.clear_in.Goals as goal

pub loop-i-init : goal.loop-i-init
loop-i-init c = (omega arith, c.requires.1, stays _ c.requires.0 (emptied-none _ _))

pub overflow_mul-i : goal.overflow_mul-i
overflow_mul-i c =
    let below : c.loop-i.i < segments_in c.args.words.now = omega arith in
    omega (arith, below, c.requires.0.few)

pub slice_bounds-write_words-end : goal.slice_bounds-write_words-end
slice_bounds-write_words-end c = refl

pub write_words-requires : goal.write_words-requires
write_words-requires c =
    let below : c.loop-i.i < segments_in c.args.words.now = omega arith in
    let a = c.loop-i.invariant.2 in
    omega (arith, room c.loop-i.words c.loop-i.i a.whole (omega (arith, below, count_in a)))

pub overflow_step-i : goal.overflow_step-i
overflow_step-i c = omega arith

pub loop-i-smaller : goal.loop-i-smaller
loop-i-smaller c = omega arith

pub loop-i-preserved : goal.loop-i-preserved
unfolding segment_words flags_word
loop-i-preserved c =
    let below : c.loop-i.i < segments_in c.args.words.now = omega arith in
    let a = c.loop-i.invariant in (
      omega (arith, a.0),
      omega arith,
      one-empty c.args.words.now c.requires.0 c.args.count _ c.loop-i.i a.0 below a.2 _ _ refl c.write_words.ensures,
    )

pub shape_of-words : goal.shape_of-words
shape_of-words c = c.loop-i.invariant.2.long

pub returns : goal.returns
returns c = all-empty c.args.words.now c.requires.0 c.args.count _ c.loop-i.i c.loop-i.invariant.1 (omega arith) c.loop-i.invariant.2
