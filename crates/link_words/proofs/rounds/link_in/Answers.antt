-- `link_words::rounds::link_in` meets its contract.
use Rattle.link_words.proofs.Settled.{rounds-law}
use borrow.Author.Rules.{rules}
use Rattle.link_words.proofs.rounds.link_in.Goals as goal

pub serif_round_in-requires : goal.serif_round_in-requires
serif_round_in-requires c = let e = c.pair_round_in.ensures in record { whole = e.became.whole; within = e.within }

pub last_round_in-requires : goal.last_round_in-requires
last_round_in-requires c = let e = c.serif_round_in.ensures in record { whole = e.became.whole; within = e.within }

pub returns : goal.returns
returns c =
    let l = c in
    let m = l in
    let p = m in
    let s = p in
    rounds-law s.args.major_dir s.args.thresholds p.pair_round_in.ensures.became m.serif_round_in.ensures.became l.last_round_in.ensures
