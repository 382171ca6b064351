-- `link::stem::is_stem_gap` meets its contract: its tests stand in their order.
use mir.Syntax.{w32}
use native.Mathlib.Omega.{arith}
use lib.IntN.{pos}
use Rattle.signed.proofs.Reading.{le_same, lt-turned}
use Rattle.link.proofs.stem.is_stem_gap.Goals as goal

pub returns-then-gap-lt0 : goal.returns-then-gap-lt0
returns-then-gap-lt0 c = rw (lt-turned w32 c.args.gap.dist (pos 0) c.struct_told-1.given.0.1 (omega arith) c.if-gap-lt0.true)

pub returns : goal.returns
returns c =
    let told2 = c in
    let else1 = told2 in
    let told = else1 in
    let start = told in
    rw (lt-turned w32 start.args.gap.dist (pos 0) told.struct_told-1.given.0.1 (omega arith) else1.if-gap-lt0.false)
    (le_same w32 start.args.thresholds.len start.args.gap.len told2.struct_told-2-1.given.0.1 c.struct_told-3-1.given.1.0.1)
