-- `link::serif::as_serif` meets its contract: each number that is kept is read back.
use mir.Syntax.{w16, w32}
use Rattle.signed.proofs.Reading.{back}
use Rattle.link.proofs.serif.as_serif.Goals as goal

pub returns : goal.returns
returns c =
    let told5 = c in
    let told4 = told5 in
    let told3 = told4 in
    let told2 = told3 in
    let told = told2 in
    let start = told in
    rw (
      back w16 start.args.seg.pos told.struct_told-1.given.1.1.0.1,
      back w16 start.args.seg.delta told2.struct_told-2-1.given.1.1.1.0.1,
      back w16
          start.args.seg.min_coord told3.struct_told-3-1.given.1.1.1.1.0.1,
      back w16 start.args.seg.max_coord told4.struct_told-4-1.given.1.1.1.1.1.0.1,
      back w16 start.args.seg.height told5.struct_told-5-1.given.1.1.1.1.1.1.0.1,
      back w32 start.args.seg.score c.struct_told-6-1.given.1.1.1.1.1.1.1.0.1,
      back w32 start.args.seg.len c.struct_told-7-1.given.1.1.1.1.1.1.1.1.0.1,
    )
