-- `build_join::ring::stem_near` meets its contract: by its two tests.
use borrow.Author.Rules.{rules}
use Rattle.signed.proofs.Signed.{is}
use Rattle.build_join.specs.Walks.{stem_near}
use Rattle.build_join.proofs.ring.stem_near.Goals as goal

pub returns-then-other-ge-NO_STEM : goal.returns-then-other-ge-NO_STEM
unfolding stem_near
returns-then-other-ge-NO_STEM c = rw (rw (is c.ranges.other) at c.if-other-ge-NO_STEM.true)

pub returns : goal.returns
unfolding stem_near
returns c =
    let else1 = c in
    let start = else1 in
    let e = rw (is start.ranges.stem, is start.ranges.other) at c.distance.ensures in
    rw (rw (is start.ranges.other) at else1.if-other-ge-NO_STEM.false, e)
