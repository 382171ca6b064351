-- `mend_amend_words::record::amend_edge` meets its contract.
use native.Mathlib.Omega.{arith}
use borrow.Author.Rules.{rules}
use Rattle.words_edge.proofs.Became.{below_in}
use Rattle.mend_amend_words.proofs.Records.{edge-amended}
use Rattle.mend_amend_words.proofs.record.amend_edge.Goals as goal

pub amend_links-count-requires : goal.amend_links-count-requires
amend_links-count-requires c = let s = c in (s.requires.0, s.requires.1, omega arith, s.requires.3)

pub amend_ends-requires : goal.amend_ends-requires
amend_ends-requires c =
    let links = c in
    let s = links in
    let m = links.amend_links-count.ensures in
    (m.became.whole, below_in s.args.k m.became s.requires.1, omega (arith, m.few, s.requires.2), search rules)

pub returns : goal.returns
returns c =
    let ends = c in
    let links = ends in
    let s = links in
    let a = s.args in
    edge-amended a.edges.now _ _ a.room.now _ _ a.k a.low a.high a.count _ _ a.broken s.requires.0 s.requires.1
    links.amend_links-count.ensures ends.amend_ends.ensures s.requires.2
    s.requires.3
