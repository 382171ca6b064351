-- `link::serif::stays_serif` meets its contract: the product fits.
use borrow.Author.Rules.{rules}
use mir.Syntax.{w32}
use Rattle.link.specs.Pairs as P
use Rattle.signed.proofs.Reading.{back, lt-was}
use Rattle.link.proofs.serif.stays_serif.Goals as goal

pub returns-then-seg2-thresholds : goal.returns-then-seg2-thresholds
unfolding P.stays_serif
returns-then-seg2-thresholds c =
    let told = c in
    let start = told in
    rw (lt-was w32 start.args.seg2.score start.args.thresholds.dist told.struct_told-1.given.1.1.1.1.1.1.1.0.1
    c.struct_told-2-1.given.1.0.1 c.if-seg2-thresholds.true)

pub times-requires : goal.times-requires
times-requires c =
    let start = c in
    record {
      between = rw (back w32 start.args.seg2.score c.struct_told-3-1.given.1.1.1.1.1.1.1.0.1) start.requires;
      between_2 = search rules;
    }

pub returns : goal.returns
unfolding P.stays_serif
returns c =
    let times = c in
    let told3 = times in
    let else1 = told3 in
    let told2 = else1 in
    let told = told2 in
    let start = told in
    rw (
      lt-was w32 start.args.seg2.score start.args.thresholds.dist told.struct_told-1.given.1.1.1.1.1.1.1.0.1
          told2.struct_told-2-1.given.1.0.1 else1.if-seg2-thresholds.false,
      back w32 start.args.seg1.score c.struct_told-4-1.given.1.1.1.1.1.1.1.0.1,
      back w32 times.times.result times.times.type_inv,
      times.times.ensures,
      back w32 start.args.seg2.score told3.struct_told-3-1.given.1.1.1.1.1.1.1.0.1,
    )
