-- `build_properties::join::distance` meets its contract: coordinates of 16 bits have differences of 32.
use mathlib.Core.Path.{◌≡◌, ◌∙◌}
use mathlib.Core.Bool.{true, false}
use lib.Signed.{lt_z}
use Rattle.signed.proofs.Reading.{back-16, cast-16, sub-fits, sub_is, distance-up, distance-down}
use Rattle.build_properties.proofs.join.distance.Goals as goal

pub overflow_cast-x : goal.overflow_cast-x
overflow_cast-x c = cast-16 c.args.a c.ranges.a.sfits

pub overflow_cast-y : goal.overflow_cast-y
overflow_cast-y c = cast-16 c.args.b c.ranges.b.sfits

pub overflow_sub-result : goal.overflow_sub-result
overflow_sub-result c = let start = c in sub-fits start.args.b start.args.a start.ranges.b.sfits start.ranges.a.sfits

pub overflow_sub-result-2 : goal.overflow_sub-result-2
overflow_sub-result-2 c = let start = c in sub-fits start.args.a start.args.b start.ranges.a.sfits start.ranges.b.sfits

pub returns-then-x-y : goal.returns-then-x-y
returns-then-x-y c =
    let start = c in
    let e : lt_z start.args.a start.args.b ≡ true =
    rw (back-16 start.args.a start.ranges.a.sfits, back-16 start.args.b start.ranges.b.sfits) at c.if-x-y.true in
    sub_is start.args.b start.args.a start.ranges.b.sfits start.ranges.a.sfits ∙ distance-up start.args.a start.args.b e

pub returns : goal.returns
returns c =
    let start = c in
    let e : lt_z start.args.a start.args.b ≡ false =
    rw (back-16 start.args.a start.ranges.a.sfits, back-16 start.args.b start.ranges.b.sfits) at c.if-x-y.false in
    sub_is start.args.a start.args.b start.ranges.a.sfits start.ranges.b.sfits ∙ distance-down start.args.a start.args.b e
