-- `build_join_words::read::ring_agrees` meets its contract: what is left of the walk gives the whole.
use borrow.Author.Rules.{rules}
use borrow.Author.Tests.{not-true, not-false}
use native.Mathlib.Omega.{arith}
use mathlib.Core.Path.{◌≡◌, refl, sym, ◌∙◌}
use mathlib.Core.Bool.{true, false}
use Prim.Native.Nat.{◌<◌}
use lib.IntN.{pos}
use lib.ListN.{length, get_or}
use lib.Signed.{le_z}
use mir.Syntax.{w32}
use mir.Val.{to_z}
use Rattle.signed.proofs.Signed.{is, got}
use Rattle.signed.proofs.By.{by₂}
use Rattle.axis.specs.Limits.{most_segments}
use Rattle.axis.specs.Ring.{walk, ends}
use Rattle.axis.proofs.Rings.{Passes, walk-passes}
use Rattle.build_join.specs.Walks.{next_in, no_stem, stem_near, stems_agree}
use Rattle.build_join.proofs.Rings.{fewer}
use Rattle.build_join.proofs.Stems.{disagrees, agrees-last, agrees_on}
use Rattle.build_join_words.specs.Reading.{stems_in}
use Rattle.build_join_words.proofs.Readings.{stem-at}
use Rattle.build_join_words.proofs.read.ring_agrees.Goals as goal

pub returns-then-stem-ge-NO_STEM : goal.returns-then-stem-ge-NO_STEM
returns-then-stem-ge-NO_STEM c = rw (rw (is c.ranges.stem) at c.if-stem-ge-NO_STEM.true)

pub loop-first-init : goal.loop-first-init
loop-first-init c = (c.requires.0, c.requires.1, refl)

pub returns-then-not-stem_near : goal.returns-then-not-stem_near
returns-then-not-stem_near c =
    let asked : le_z no_stem c.args.stem ≡ false = rw (is c.ranges.stem) at c.if-stem-ge-NO_STEM.false in
    let tested : let a = c.args in
    c.stem_near.result ≡ stem_near a.near a.stem (get_or (stems_in a.words.now) c.loop-first.ix (pos 0)) = by₂ (stem_near c.args.near) c.stem_near.ensures (is c.ranges.stem)
    (is (got w32 c.read_stem.result c.read_stem.type_inv) ∙ c.read_stem.ensures
    ∙ sym (stem-at c.args.words.now c.loop-first.ix c.loop-first.invariant.0)) in
    rw asked
    (disagrees _ _ _ _ _ _ most_segments (sym tested ∙ c.if-not-stem_near.true) ∙ rw (is c.ranges.stem) at c.loop-first.invariant.2)

pub returns-then-ix-last : goal.returns-then-ix-last
returns-then-ix-last c =
    let asked : le_z no_stem c.args.stem ≡ false = rw (is c.ranges.stem) at c.if-stem-ge-NO_STEM.false in
    let tested : let a = c.args in
    c.stem_near.result ≡ stem_near a.near a.stem (get_or (stems_in a.words.now) c.loop-first.ix (pos 0)) = by₂ (stem_near c.args.near) c.stem_near.ensures (is c.ranges.stem)
    (is (got w32 c.read_stem.result c.read_stem.type_inv) ∙ c.read_stem.ensures
    ∙ sym (stem-at c.args.words.now c.loop-first.ix c.loop-first.invariant.0)) in
    rw asked
    (agrees-last _ _ _ _ _ _ (sym tested ∙ c.if-not-stem_near.false) most_segments c.if-ix-last.true
    ∙ rw (is c.ranges.stem) at c.loop-first.invariant.2)

pub offset_bounds-next-ix : goal.offset_bounds-next-ix
offset_bounds-next-ix c = omega arith

pub bounds-next-ix : goal.bounds-next-ix
bounds-next-ix c = omega arith

pub loop-first-smaller : goal.loop-first-smaller
loop-first-smaller c =
    let passes : let a = c.args in
    Passes (next_in a.next.now) most_segments a.last most_segments c.loop-first.ix = walk-passes _ _ _ _ _ c.if-ix-last.false c.loop-first.invariant.1 in
    fewer _ _ _ _ _ passes

pub loop-first-preserved : goal.loop-first-preserved
loop-first-preserved c =
    let tested : let a = c.args in
    c.stem_near.result ≡ stem_near a.near a.stem (get_or (stems_in a.words.now) c.loop-first.ix (pos 0)) = by₂ (stem_near c.args.near) c.stem_near.ensures (is c.ranges.stem)
    (is (got w32 c.read_stem.result c.read_stem.type_inv) ∙ c.read_stem.ensures
    ∙ sym (stem-at c.args.words.now c.loop-first.ix c.loop-first.invariant.0)) in
    let passes : let a = c.args in
    Passes (next_in a.next.now) most_segments a.last most_segments c.loop-first.ix = walk-passes _ _ _ _ _ c.if-ix-last.false c.loop-first.invariant.1 in
    let p = passes in (
      p.below,
      p.on,
      rw (is c.ranges.stem) (agrees_on _ _ _ _ _ _ (sym tested ∙ c.if-not-stem_near.false) _ most_segments p
          ∙ rw (is c.ranges.stem) at c.loop-first.invariant.2),
    )
