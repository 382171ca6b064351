-- `link::serif::little_worse` meets its contract: the product fits.
use borrow.Author.Rules.{rules}
use mir.Syntax.{w32}
use Rattle.signed.proofs.Reading.{back, le-turned}
use Rattle.link.proofs.serif.little_worse.Goals as goal

pub returns-then-seg2-seg1 : goal.returns-then-seg2-seg1
returns-then-seg2-seg1 c =
    let told = c in
    let start = told in
    let first = told.struct_told-1.given.1.1.1.1.1.1.1.0.1 in
    rw (le-turned w32 start.args.seg2.score start.args.seg1.score first c.struct_told-2-1.given.1.1.1.1.1.1.1.0.1 c.if-seg2-seg1.true)

pub times-requires : goal.times-requires
times-requires c =
    let start = c in
    record {
      between = rw (back w32 start.args.seg1.score c.struct_told-3-1.given.1.1.1.1.1.1.1.0.1) start.requires;
      between_2 = search rules;
    }

pub returns : goal.returns
returns c =
    let times = c in
    let told3 = times in
    let else1 = told3 in
    let told2 = else1 in
    let told = told2 in
    let start = told in
    let first = told.struct_told-1.given.1.1.1.1.1.1.1.0.1 in
    rw (
      le-turned w32 start.args.seg2.score start.args.seg1.score first told2.struct_told-2-1.given.1.1.1.1.1.1.1.0.1 else1.if-seg2-seg1.false,
      back w32 start.args.seg2.score c.struct_told-4-1.given.1.1.1.1.1.1.1.0.1,
      back w32 times.times.result times.times.type_inv,
      times.times.ensures,
      back w32 start.args.seg1.score told3.struct_told-3-1.given.1.1.1.1.1.1.1.0.1,
    )
