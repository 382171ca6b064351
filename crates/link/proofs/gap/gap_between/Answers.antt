-- `link::gap::gap_between` meets its contract: coordinates of 16 bits have differences within the table.
use mathlib.Core.Path.{◌≡◌}
use mir.Syntax.{w16}
use Rattle.link.specs.Pairs as P
use Rattle.signed.proofs.Reading.{back, cast-16, sub-fits, sub_is}
use Rattle.axis.proofs.Declared.{typed-segment}
use Rattle.link.proofs.Ranges.{gap-reach, reach-of}
use Rattle.link.proofs.gap.gap_between.Goals as goal

pub overflow_cast-result : goal.overflow_cast-result
overflow_cast-result c =
    let start = c.before.before.before.before.before.before.before.before in
    cast-16 start.args.seg2.pos c.struct_told-5-1.given.1.1.0.1

pub overflow_cast-result-2 : goal.overflow_cast-result-2
overflow_cast-result-2 c =
    let start = c.before.before.before.before.before.before.before.before.before.before in
    cast-16 start.args.before.pos c.struct_told-6-1.given.1.1.0.1

pub overflow_sub-result : goal.overflow_sub-result
overflow_sub-result c =
    let told5 = c.before.before in
    let start = told5.before.before.before.before.before.before.before.before in
    sub-fits start.args.seg2.pos start.args.before.pos told5.struct_told-5-1.given.1.1.0.1 c.struct_told-6-1.given.1.1.0.1

pub overflow_cast-result-3 : goal.overflow_cast-result-3
overflow_cast-result-3 c =
    let smaller = c.before.before.before.before in
    cast-16 smaller.smaller-max.result smaller.smaller-max.type_inv

pub overflow_cast-result-4 : goal.overflow_cast-result-4
overflow_cast-result-4 c =
    let larger = c.before.before.before.before.before.before.before in
    cast-16 larger.larger-min.result larger.larger-min.type_inv

pub overflow_sub-result-2 : goal.overflow_sub-result-2
overflow_sub-result-2 c =
    let smaller = c.before.before.before.before in
    let larger = smaller.before.before.before in
    sub-fits smaller.smaller-max.result larger.larger-min.result smaller.smaller-max.type_inv larger.larger-min.type_inv

pub returns : goal.returns
unfolding P.gap_of
returns c =
    let before = typed-segment c.args.before _ c.well_formed.0 in
    let seg1 = typed-segment c.args.seg1 _ c.well_formed.1.0 in
    let seg2 = typed-segment c.args.seg2 _ c.well_formed.1.1.0 in
    -- the start of the overlap, and its end
    let low : c.larger-min.result ≡ P.max_z c.args.seg1.min_coord c.args.seg2.min_coord =
    rw (
      back w16 c.args.seg1.min_coord c.struct_told-1.given.1.1.1.1.0.1,
      back w16 c.args.seg2.min_coord c.struct_told-2-1.given.1.1.1.1.0.1,
    ) at c.larger-min.ensures in
    let high : c.smaller-max.result ≡ P.min_z c.args.seg1.max_coord c.args.seg2.max_coord =
    rw (
      back w16 c.args.seg1.max_coord c.struct_told-3-1.given.1.1.1.1.1.0.1,
      back w16 c.args.seg2.max_coord c.struct_told-4-1.given.1.1.1.1.1.0.1,
    ) at c.smaller-max.ensures in
    record {
      value = rw (
        sub_is c.args.seg2.pos c.args.before.pos c.struct_told-5-1.given.1.1.0.1 c.struct_told-6-1.given.1.1.0.1,
        sub_is c.smaller-max.result c.larger-min.result c.smaller-max.type_inv c.larger-min.type_inv,
        high,
        low,
      );
      reach = reach-of (rw (
        sub_is c.args.seg2.pos c.args.before.pos c.struct_told-5-1.given.1.1.0.1 c.struct_told-6-1.given.1.1.0.1,
        sub_is c.smaller-max.result c.larger-min.result c.smaller-max.type_inv c.larger-min.type_inv,
        high,
        low,
      ))
          (gap-reach c.args.before c.args.seg1 c.args.seg2 before seg1 seg2);
    }
