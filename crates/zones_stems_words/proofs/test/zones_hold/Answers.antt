-- `zones_stems_words::test::zones_hold` meets its contract.
use Rattle.axis.specs.Refusals.{edge_passes}
use Rattle.zones_stems_words.proofs.Zoning.{zones-there, zones-absent}
use borrow.Author.Rules.{rules}
use native.Mathlib.Omega.{arith}
use Rattle.zones_stems_words.proofs.test.zones_hold.Goals as goal

pub returns-then-has_blues : goal.returns-then-has_blues
returns-then-has_blues c few = let a = c.args in zones-there a.words.now a.dim a.group c.has_blues.ensures c.if-has_blues.true

pub returns-then-words-gt-MOST_EDGES : goal.returns-then-words-gt-MOST_EDGES
returns-then-words-gt-MOST_EDGES c few = absurd (omega (arith, few))

pub returns : goal.returns
unfolding edge_passes
returns c few =
    let a = c.args in
    zones-absent a.words.now a.dim a.group c.has_blues.ensures c.if-has_blues.false c.every_edge.ensures
