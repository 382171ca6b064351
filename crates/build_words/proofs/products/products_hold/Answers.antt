-- `build_words::products::products_hold` meets its contract.
use mathlib.Core.Path.{◌≡◌, refl, sym, ap, ◌∙◌}
use mathlib.Core.Bool.{true}
use Prim.Native.Nat.{ℕ, ◌≤◌, ◌-◌, min}
use native.Mathlib.Omega.{arith}
use lib.IntN.{pos}
use mir.Syntax.{w32}
use mir.Val.{to_z}
use borrow.Author.Rules.{rules}
use borrow.Author.Tests.{not-true, not-false}
use Rattle.signed.proofs.Signed.{is}
use Rattle.axis.specs.Limits.{most_segments}
use Rattle.axis.specs.Refusals.{every, inside}
use Rattle.axis.specs.Segment.{segment_at}
use Rattle.axis.proofs.Tests.{every-none, every_more, every-fails, every-done}
use Rattle.build.specs.Building.{scaled_holds, products_hold}
use Rattle.words.specs.Segment.{segments_in, segments_run, flat_segments}
use Rattle.build_words.proofs.Scaled.{safe_scale, safe-products, scaled-tested}
use Rattle.build_words.proofs.products.products_hold.Goals as goal

pub returns-then-n-gt-MOST_SEGMENTS : goal.returns-then-n-gt-MOST_SEGMENTS
returns-then-n-gt-MOST_SEGMENTS c few = absurd (omega arith)

pub returns-then-is_inside : goal.returns-then-is_inside
returns-then-is_inside c few =
    let i = c in
    let s = i in
    safe-products s.args.words.now s.args.scale
    (ap (inside (pos 0) (pos safe_scale)) (sym (is s.ranges.scale)) ∙ sym i.is_inside.ensures ∙ c.if-is_inside.true)

pub loop-i-init : goal.loop-i-init
loop-i-init c = (omega arith, refl, omega arith, every-none _)

pub overflow_cast-i : goal.overflow_cast-i
overflow_cast-i c = omega arith

pub returns-then-not-scaled_holds : goal.returns-then-not-scaled_holds
unfolding products_hold flat_segments segments_run
returns-then-not-scaled_holds c few =
    let t = c in
    let g = t in
    let o = g in
    let s = o in
    sym (every-fails _ o.loop-i.i _ (omega arith)
    (scaled-tested s.args.words.now s.args.scale _ o.loop-i.i _ _ _ (is s.ranges.scale) (omega arith) few g.read_segment.ensures
    t.scaled_holds.ensures (c.if-not-scaled_holds.true)))

pub overflow_step-i : goal.overflow_step-i
overflow_step-i c = omega arith

pub loop-i-smaller : goal.loop-i-smaller
loop-i-smaller c = omega arith

pub loop-i-preserved : goal.loop-i-preserved
loop-i-preserved c =
    let t = c in
    let g = t in
    let o = g in
    let s = o in
    let v = o.loop-i.invariant in (
      omega arith,
      v.1,
      v.2,
      every_more _ _ v.3
          (scaled-tested s.args.words.now _ _ o.loop-i.i _ _ _ refl (omega arith) v.2 g.read_segment.ensures t.scaled_holds.ensures
          (c.if-not-scaled_holds.false)),
    )

pub returns : goal.returns
unfolding products_hold flat_segments segments_run
returns c few =
    let o = c in
    let s = o in
    let v = o.loop-i.invariant in
    let e = rw (is s.ranges.scale) at v.3 in
    every-done _ _ _ _ v.0 (omega arith) (omega (arith, v.1)) e
