-- `shown_rows::turns::close_row` meets its contract. The invariant: the pixels of the columns passed are written and counted with their turns, a and c are the
-- pixels in front, and the winding
-- is what the changes of the columns passed come to.
use mathlib.Core.Path.{◌≡◌, refl, ap, ◌∙◌}
use Prim.Native.Nat.{◌+◌, ◌%◌}
use native.Mathlib.Omega.{arith}
use lib.Dec.{ltb}
use lib.ListN.{get_or}
use Rattle.shown_rows.specs.Turns.{pixel, outer, inner, total, before, window}
use Rattle.shown_rows.specs.Rows.{black_at, wound}
use Rattle.shown_rows.proofs.Euler.{few-more, before_more, total-few, total-more, pixel-one, outer_one, inner-one}
use Rattle.shown_rows.proofs.Rows.{winding-more, pixel-here, over_none, over-more}
use Rattle.shown_rows.proofs.turns.close_row.Goals as goal

pub loop-i-init : goal.loop-i-init
unfolding total
loop-i-init c = (refl, refl, refl, refl, refl, refl, over_none _ _)

pub overflow_add-blacks : goal.overflow_add-blacks
overflow_add-blacks c =
    let lower = c.args.below.now in
    let changed = c.args.changes.now in
    few-more _ _ (omega (
      arith,
      c.loop-i.invariant.3,
      total-few (window pixel (black_at lower) (wound changed)) (λ i. pixel-one (wound changed i))
          c.loop-i.i,
      c.requires,
    ))
    (omega (arith, c.pixel_of-here.ensures, pixel-one c.is_wound-d.result))

pub overflow_add-outers : goal.overflow_add-outers
overflow_add-outers c =
    let lower = c.args.below.now in
    let changed = c.args.changes.now in
    few-more _ _
    (omega (
      arith,
      c.loop-i.invariant.4,
      total-few (window outer (black_at lower) (wound changed))
          (λ i. outer_one (before (black_at lower) i) (black_at lower i) (before (wound changed) i) (wound changed i)) c.loop-i.i,
      c.requires,
    ))
    (omega (
      arith,
      c.outer_turn-outers.ensures,
      outer_one c.loop-i.a c.is_black-b.result c.loop-i.c
          c.is_wound-d.result,
    ))

pub overflow_add-inners : goal.overflow_add-inners
overflow_add-inners c =
    let lower = c.args.below.now in
    let changed = c.args.changes.now in
    few-more _ _
    (omega (
      arith,
      c.loop-i.invariant.5,
      total-few (window (λ _. inner) (black_at lower) (wound changed))
          (λ i. inner-one (black_at lower i) (before (wound changed) i) (wound changed i)) c.loop-i.i,
      c.requires,
    ))
    (omega (
      arith,
      c.inner_turn-inners.ensures,
      inner-one c.is_black-b.result c.loop-i.c
          c.is_wound-d.result,
    ))

pub loop-i-preserved : goal.loop-i-preserved
loop-i-preserved c =
    let lower = c.args.below.now in
    let changed = c.args.changes.now in
    let i = c.loop-i.i in
    let v = c.loop-i.invariant in
    -- the lower pixel of the column, what winds around its centre, and its pixel
    let b : c.is_black-b.result ≡ black_at lower i = c.is_black-b.ensures ∙ ap (ltb 0) (v.6.behind i (omega arith)) in
    let g : c.gained-winding.result ≡ total (λ k. get_or changed k 0) (i + 1) % 65536 = winding-more changed i _ _ v.2 c.gained-winding.ensures.sum in
    let d : c.is_wound-d.result ≡ wound changed i = pixel-here changed i _ _ c.is_wound-d.ensures g in (
      b ∙ before_more (black_at lower) i,
      d ∙ before_more (wound changed) i,
      g,
      total-more (window pixel (black_at lower) (wound changed)) i _ _ v.3
          (c.pixel_of-here.ensures ∙ λ k. pixel (v.0 k) (b k) (v.1 k) (d k)),
      total-more (window outer (black_at lower) (wound changed)) i _ _ v.4
          (c.outer_turn-outers.ensures ∙ λ k. outer (v.0 k) (b k) (v.1 k) (d k)),
      total-more (window (λ _. inner) (black_at lower) (wound changed)) i _ _ v.5
          (c.inner_turn-inners.ensures ∙ λ k. inner (b k) (v.1 k) (d k)),
      over-more lower changed _ i _ _ v.6 (omega (arith, c.requires)) c.pixel_of-here.ensures d,
    )
