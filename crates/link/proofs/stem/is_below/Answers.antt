-- `link::stem::is_below` meets its contract: the products fit.
use borrow.Author.Rules.{rules}
use mir.Syntax.{w32}
use Rattle.signed.proofs.Signed.{is}
use Rattle.signed.proofs.Reading.{back}
use Rattle.link.proofs.stem.is_below.Goals as goal

pub times-requires : goal.times-requires
times-requires c =
    record {
      between = rw (is c.ranges.dist) c.requires.between;
      between_2 = search rules;
    }

pub times-requires-2 : goal.times-requires-2
times-requires-2 c =
    record {
      between = rw (is c.ranges.score) c.requires.between_2;
      between_2 = rw (is c.ranges.k) c.requires.between_3;
    }

pub returns : goal.returns
returns c =
    let start = c in
    let dist = c.times in
    let score = c.times-2 in
    rw (
      back w32 dist.result dist.type_inv,
      back w32 score.result score.type_inv,
      dist.ensures,
      score.ensures,
      is start.ranges.dist,
      is
          start.ranges.score,
      is start.ranges.k,
    )
