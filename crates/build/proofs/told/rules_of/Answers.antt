-- `build::told::rules_of` meets its contract.
use mir.Syntax.{w32}
use Rattle.signed.proofs.Signed.{is}
use Rattle.signed.proofs.Reading.{back}
use Rattle.build.proofs.Scales.{right}
use Rattle.build.proofs.told.rules_of.Goals as goal

pub near_of-near-requires : goal.near_of-near-requires
near_of-near-requires c =
    let start = c in
    let r = right start.args.scale start.args.thresholds start.requires in
    rw (back w32 start.args.thresholds.distance c.struct_told-1.given.0.1, is start.ranges.scale) (r.distance, r.scale_within, r.scale_not_0)

pub returns : goal.returns
returns c =
    let start = c in
    let near = rw (back w32 start.args.thresholds.distance c.struct_told-1.given.0.1, is start.ranges.scale) at c.near_of-near.ensures in
    rw (
      back w32 start.args.thresholds.length c.struct_told-2-1.given.1.0.1,
      back w32 start.args.thresholds.width c.struct_told-3-1.given.1.1.0.1,
      is start.ranges.scale,
      near,
    )
