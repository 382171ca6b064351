-- `pack_steps_words::keep::kept_in` meets its contract: three lists are filled, and followed.
use borrow.Author.Rules.{rules}
use native.Mathlib.Omega.{arith}
use mathlib.Core.Path.{◌≡◌, refl}
use Prim.Native.Nat.{◌-◌, ◌≤◌, ◌<◌}
use Rattle.axis.specs.Limits.{most_segments}
use Rattle.axis.specs.declared.segment.Segments.{Segments}
use Rattle.words.specs.Segment.{segments_in, flat_segments}
use Rattle.words_segment.proofs.Wholes.{segments-len}
use Rattle.pack.proofs.Filled.{Three, three-none, three-next, link_fits, serif-fits, three-ready, three-followed}
use Rattle.pack_steps_words.proofs.Readings.{some-linked, read-or, inside, edged-read, link-or, serif-or}
use Rattle.pack_steps_words.proofs.keep.kept_in.Goals as goal

pub loop-i-init : goal.loop-i-init
loop-i-init c = (omega arith, refl, c.requires.0.few, three-none _)

pub overflow_mul-i : goal.overflow_mul-i
overflow_mul-i c = omega arith

pub overflow_add-i : goal.overflow_add-i
overflow_add-i c = omega arith

pub overflow_mul-i-in-loop-i : goal.overflow_mul-i-in-loop-i
overflow_mul-i-in-loop-i c = omega arith

pub overflow_add-i-in-loop-i : goal.overflow_add-i-in-loop-i
overflow_add-i-in-loop-i c = omega arith

pub overflow_mul-i-in-loop-i-2 : goal.overflow_mul-i-in-loop-i-2
overflow_mul-i-in-loop-i-2 c = omega arith

pub overflow_add-i-in-loop-i-2 : goal.overflow_add-i-in-loop-i-2
overflow_add-i-in-loop-i-2 c = omega arith

pub bounds-kept-i : goal.bounds-kept-i
bounds-kept-i c = omega arith

pub overflow_cast-links : goal.overflow_cast-links
overflow_cast-links c =
    omega (
      arith,
      link_fits (flat_segments c.args.words.now) c.requires.1 c.loop-i.i c.map_or.result (inside c.args.words.now c.requires.0 c.loop-i.i c.loop-i-test.true)
          (link-or _ c.requires.0 _ c.loop-i-test.true _ _ c.link_at-link.ensures (read-or _ _ _ c.map_or.ensures)),
    )

pub offset_bounds-links-i : goal.offset_bounds-links-i
offset_bounds-links-i c = omega arith

pub bounds-links-i : goal.bounds-links-i
bounds-links-i c = omega arith

pub overflow_cast-serifs : goal.overflow_cast-serifs
overflow_cast-serifs c =
    omega (
      arith,
      serif-fits (flat_segments c.args.words.now) c.requires.1 c.loop-i.i c.map_or-in-loop-i.result (inside c.args.words.now c.requires.0 c.loop-i.i c.loop-i-test.true)
          (serif-or _ c.requires.0 _ c.loop-i-test.true _ _ c.link_at-serif.ensures (read-or _ _ _ c.map_or-in-loop-i.ensures)),
    )

pub offset_bounds-serifs-i : goal.offset_bounds-serifs-i
offset_bounds-serifs-i c = omega arith

pub bounds-serifs-i : goal.bounds-serifs-i
bounds-serifs-i c = omega arith

pub loop-i-smaller : goal.loop-i-smaller
loop-i-smaller c = omega arith

pub loop-i-preserved : goal.loop-i-preserved
loop-i-preserved c =
    let w = c.requires.0 in
    let h = c.loop-i-test.true in (
      omega arith,
      c.loop-i.invariant.1,
      c.loop-i.invariant.2,
      three-next (flat_segments c.args.words.now) _ _ _ c.loop-i.i _ _ _ c.loop-i.invariant.3 (omega (arith, h, c.loop-i.invariant.2))
          (edged-read _ w _ h _ _ c.link_at-edge.ensures (some-linked _ _ c.is_some.ensures))
          (link-or _ w _ h _ _ c.link_at-link.ensures (read-or _ _ _ c.map_or.ensures))
          (serif-or _ w _ h _ _ c.link_at-serif.ensures (read-or _ _ _ c.map_or-in-loop-i.ensures)),
    )

pub follow-requires : goal.follow-requires
follow-requires c =
    three-ready _ c.requires.1 _ _ _ c.loop-i.i (omega (arith, c.loop-i.invariant.0, segments-len c.args.words.now))
    (omega (arith, c.loop-i-test.false, segments-len c.args.words.now)) c.loop-i.invariant.3

pub returns : goal.returns
returns c =
    three-followed _ c.requires.1 _ _ _ _ c.loop-i.i (omega (arith, c.loop-i.invariant.0, segments-len c.args.words.now))
    (omega (arith, c.loop-i-test.false, segments-len c.args.words.now)) c.loop-i.invariant.3 c.follow.ensures
