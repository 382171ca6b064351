-- `link::serif::is_much_longer` meets its contract: the product fits.
use borrow.Author.Rules.{rules}
use mir.Syntax.{w32}
use Rattle.link.specs.Pairs as P
use Rattle.signed.proofs.Reading.{back}
use Rattle.link.proofs.serif.is_much_longer.Goals as goal

pub times-requires : goal.times-requires
times-requires c =
    record {
      between = rw (back w32 c.args.seg2.len c.struct_told-1.given.1.1.1.1.1.1.1.1.0.1) c.requires;
      between_2 = search rules;
    }

pub returns : goal.returns
unfolding P.much_longer
returns c =
    let times = c in
    let told = times in
    let start = told in
    rw (
      back w32 start.args.seg1.len c.struct_told-2-1.given.1.1.1.1.1.1.1.1.0.1,
      back w32 times.times.result times.times.type_inv,
      times.times.ensures,
      back w32 start.args.seg2.len told.struct_told-1.given.1.1.1.1.1.1.1.1.0.1,
    )
