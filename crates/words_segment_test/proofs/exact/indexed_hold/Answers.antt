-- `words_segment_test::exact::indexed_hold` meets its contract.
use borrow.Author.Tests.{not-true, not-false}
use Rattle.words.specs.Segment.{flat_segments}
use Rattle.words_segment_test.proofs.Refusals.{index-fails, next-tested, next-untested}
use borrow.Author.Rules.{rules}
use Rattle.words_segment_test.proofs.exact.indexed_hold.Goals as goal

pub returns-then-not-indices_hold : goal.returns-then-not-indices_hold
returns-then-not-indices_hold c =
    let k = c in
    let a = k.args in index-fails (flat_segments a.words.now) a.nexts _ k.indices_hold.ensures (c.if-not-indices_hold.true)

pub returns-then-nexts : goal.returns-then-nexts
returns-then-nexts c =
    let y = c in
    let x = y in
    let k = x in
    let a = k.args in
    next-tested (flat_segments a.words.now) a.nexts _ k.indices_hold.ensures _ (x.if-not-indices_hold.false) y.if-nexts.true c.nexts_hold.ensures

pub returns : goal.returns
returns c =
    let x = c in
    let k = x in
    let a = k.args in
    next-untested (flat_segments a.words.now) a.nexts _ k.indices_hold.ensures (x.if-not-indices_hold.false) c.if-nexts.false
