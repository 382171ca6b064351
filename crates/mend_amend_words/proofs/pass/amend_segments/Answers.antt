-- `mend_amend_words::pass::amend_segments` meets its contract: each turn alters one segment.
use Prim.Native.Nat.{◌≤◌, ◌<◌, ◌-◌}
use native.Mathlib.Omega.{arith}
use mathlib.Core.Path.{◌∙◌}
use Rattle.words.specs.Segment.{segments_in}
use Rattle.words_segment.proofs.Became.{below_in}
use Rattle.mend_amend_words.proofs.Passes.{SegmentsTo, segments-none, segments-room, segments-long, segments-more, segments-all}
use Rattle.mend_amend_words.proofs.pass.amend_segments.Goals as goal

pub loop-i-init : goal.loop-i-init
loop-i-init c = (omega arith, segments-none _ _ _ _ c.requires.0 c.requires.1)

pub offset_bounds-edges-i : goal.offset_bounds-edges-i
offset_bounds-edges-i c = omega (arith, c.requires.0.few)

pub bounds-edges-i : goal.bounds-edges-i
bounds-edges-i c = omega (arith, c.requires.0.few)

pub offset_bounds-next-i : goal.offset_bounds-next-i
offset_bounds-next-i c = omega (arith, c.requires.0.few)

pub bounds-next-i : goal.bounds-next-i
bounds-next-i c = omega (arith, c.requires.0.few)

pub amend_segment-count-requires : goal.amend_segment-count-requires
amend_segment-count-requires c =
    let below : c.loop-i.i < segments_in c.args.segments.now = omega arith in
    let a = c.loop-i.invariant.1 in (
      a.became.whole,
      below_in c.loop-i.i a.became below,
      segments-room _ _ _ _ c.requires.0 c.requires.1 a below,
      segments-long _ _ _ _
          c.requires.0 c.requires.1 a c.loop-i.invariant.0 ∙ c.requires.1,
    )

pub overflow_step-i : goal.overflow_step-i
overflow_step-i c = omega arith

pub loop-i-smaller : goal.loop-i-smaller
loop-i-smaller c = omega arith

pub loop-i-preserved : goal.loop-i-preserved
loop-i-preserved c =
    let below : c.loop-i.i < segments_in c.args.segments.now = omega arith in
    (omega arith, segments-more _ _ _ _ c.requires.0 c.requires.1 c.loop-i.invariant.1 below c.amend_segment-count.ensures)

pub shape_of-segments : goal.shape_of-segments
shape_of-segments c = c.loop-i.invariant.1.became.long

pub shape_of-room : goal.shape_of-room
shape_of-room c = segments-long _ _ _ _ c.requires.0 c.requires.1 c.loop-i.invariant.1 c.loop-i.invariant.0

pub returns : goal.returns
returns c = segments-all _ _ _ _ c.requires.0 c.requires.1 c.loop-i.invariant.0 (omega arith) c.loop-i.invariant.1
