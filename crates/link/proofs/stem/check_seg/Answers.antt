-- `link::stem::check_seg` meets its contract: its tests stand in their order.
use borrow.Author.Rules.{rules}
use mathlib.Core.Path.{◌≡◌, sym, ◌∙◌}
use lib.IntN.{pos, ◌*ℤ◌}
use lib.Signed.{lt_z}
use mir.Syntax.{w32}
use Rattle.link.specs.Pairs as P
use Rattle.signed.proofs.Reading.{back, lt_same}
use Rattle.link.proofs.stem.check_seg.Goals as goal

pub is_below-requires : goal.is_below-requires
is_below-requires c =
    let start = c.before.before in
    record {
      between = rw (back w32 start.args.gap.dist c.struct_told-1.given.0.1) start.requires.between_2;
      between_2 = rw (back w32 start.args.seg.score c.struct_told-2-1.given.1.1.1.1.1.1.1.0.1) start.requires.between;
      between_3 = search rules;
    }

pub returns-then-not-is_below : goal.returns-then-not-is_below
unfolding P.check_seg
returns-then-not-is_below c =
    let nine : lt_z (c.args.gap.dist *ℤ pos 8) (c.args.seg.score *ℤ pos 9) ≡ c.is_below.result =
    sym (rw (
      back w32 c.args.gap.dist c.struct_told-1.given.0.1,
      back w32 c.args.seg.score c.struct_told-2-1.given.1.1.1.1.1.1.1.0.1,
    ) at
    c.is_below.ensures) in
    rw (nine ∙ c.if-not-is_below.true)

pub is_below-requires-2 : goal.is_below-requires-2
is_below-requires-2 c =
    let told3 = c.before in
    let start = told3.before.before.before.before.before in
    record {
      between = rw (back w32 start.args.gap.dist told3.struct_told-3-1.given.0.1) start.requires.between_2;
      between_2 = rw (back w32 start.args.seg.score c.struct_told-4-1.given.1.1.1.1.1.1.1.0.1) start.requires.between;
      between_3 = search rules;
    }

pub returns-then-is_below : goal.returns-then-is_below
unfolding P.check_seg
returns-then-is_below c =
    let nine : lt_z (c.args.gap.dist *ℤ pos 8) (c.args.seg.score *ℤ pos 9) ≡ c.is_below.result =
    sym (rw (
      back w32 c.args.gap.dist c.struct_told-1.given.0.1,
      back w32 c.args.seg.score c.struct_told-2-1.given.1.1.1.1.1.1.1.0.1,
    ) at
    c.is_below.ensures) in
    let seven : lt_z (c.args.gap.dist *ℤ pos 8) (c.args.seg.score *ℤ pos 7) ≡ c.is_below-2.result =
    sym (rw (
      back w32 c.args.gap.dist c.struct_told-3-1.given.0.1,
      back w32 c.args.seg.score c.struct_told-4-1.given.1.1.1.1.1.1.1.0.1,
    ) at
    c.is_below-2.ensures) in
    rw (nine ∙ c.if-not-is_below.false, seven ∙ c.if-is_below.true)

pub returns : goal.returns
unfolding P.check_seg
returns c =
    let nine : lt_z (c.args.gap.dist *ℤ pos 8) (c.args.seg.score *ℤ pos 9) ≡ c.is_below.result =
    sym (rw (
      back w32 c.args.gap.dist c.struct_told-1.given.0.1,
      back w32 c.args.seg.score c.struct_told-2-1.given.1.1.1.1.1.1.1.0.1,
    ) at
    c.is_below.ensures) in
    let seven : lt_z (c.args.gap.dist *ℤ pos 8) (c.args.seg.score *ℤ pos 7) ≡ c.is_below-2.result =
    sym (rw (
      back w32 c.args.gap.dist c.struct_told-3-1.given.0.1,
      back w32 c.args.seg.score c.struct_told-4-1.given.1.1.1.1.1.1.1.0.1,
    ) at
    c.is_below-2.ensures) in
    rw (nine ∙ c.if-not-is_below.false, seven ∙ c.if-is_below.false)
    (lt_same w32 c.args.seg.len c.args.gap.len c.struct_told-5-1.given.1.1.1.1.1.1.1.1.0.1 c.struct_told-6-1.given.1.0.1)
