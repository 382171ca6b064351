-- `stems_cjk::stem::clamp` meets its contract.
use Rattle.signed.proofs.Signed.{is}
use Rattle.stems_cjk.specs.Cjk.{clamped}
use borrow.Author.Rules.{rules}
use Rattle.stems_cjk.proofs.stem.clamp.Goals as goal

pub returns-then-stem_adjust : goal.returns-then-stem_adjust
unfolding clamped
returns-then-stem_adjust c = let s = c in rw c.if-stem_adjust.true (is s.ranges.delta)

pub returns-then-delta : goal.returns-then-delta
unfolding clamped
returns-then-delta c = let o = c in let s = o in rw (o.if-stem_adjust.false, rw (is s.ranges.delta) at c.if-delta.true)

pub returns-then-delta-gt-MAX_DELTA_ABS : goal.returns-then-delta-gt-MAX_DELTA_ABS
unfolding clamped
returns-then-delta-gt-MAX_DELTA_ABS c =
    let e = c in
    let o = e in
    let s = o in
    rw (o.if-stem_adjust.false, rw (is s.ranges.delta) at e.if-delta.false, rw (is s.ranges.delta) at c.if-delta-gt-MAX_DELTA_ABS.true)

pub returns : goal.returns
unfolding clamped
returns c =
    let e = c in
    let o = e in
    let s = o in
    rw (o.if-stem_adjust.false, rw (is s.ranges.delta) at e.if-delta.false, rw (is s.ranges.delta) at c.if-delta-gt-MAX_DELTA_ABS.false) (is s.ranges.delta)
