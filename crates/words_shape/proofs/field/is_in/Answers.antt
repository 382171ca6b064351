-- `words_shape::field::is_in` meets its contract.
use native.Mathlib.Omega.{arith}
use mathlib.Core.Path.{sym}
use mir.Syntax.{w32}
use mir.Val.{SFits}
use Rattle.signed.proofs.Signed.{signed, got, ◌also◌}
use Rattle.words_shape.proofs.Shapes.{below-range, above-range, in_range}
use Rattle.words_shape.proofs.field.is_in.Goals as goal

-- the field's bounds are as the machine reads them
pub returns-then-word-range : goal.returns-then-word-range
returns-then-word-range c =
    let low : SFits w32 c.args.range.low = got w32 _ c.struct_told-1.given.0.1 in
    let k = c.ranges.word also low in
    sym (below-range c.args.range c.args.word (omega (arith, signed)))

pub returns-then-range-word : goal.returns-then-range-word
returns-then-range-word c =
    let high : SFits w32 c.args.range.high = got w32 _ c.struct_told-2-1.given.1.0.1 in
    let k = c.ranges.word also high in
    sym (above-range c.args.range c.args.word (omega (arith, signed)))

pub returns : goal.returns
returns c =
    let low : SFits w32 c.args.range.low = got w32 _ c.struct_told-1.given.0.1 in
    let high : SFits w32 c.args.range.high = got w32 _ c.struct_told-2-1.given.1.0.1 in
    let k = c.ranges.word also low also high in
    sym (in_range c.args.range c.args.word (omega (arith, signed)) (omega (arith, signed)))
