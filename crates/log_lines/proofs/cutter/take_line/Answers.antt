-- `log_lines::cutter::take_line` meets its contract. The invariant: what is left of the block gives what the call owes.
use borrow.Author.Rules.{rules}
use native.Mathlib.Omega.{arith}
use Prim.Native.Nat.{◌-◌}
use lib.ListN.{length}
use Rattle.log_lines.proofs.Turns.{Left, left-all, left-full, left-more, left-feed, left_end}
use Rattle.log_lines.proofs.cutter.take_line.Goals as goal

pub loop-at-init : goal.loop-at-init
loop-at-init c =
    let a = c.args in left-all a.block.now a.from a.line.now a.count c.at_most-held.result c.at_most-held.ensures

pub shape_of-line-then-byte-eq-LINE_FEED : goal.shape_of-line-then-byte-eq-LINE_FEED
shape_of-line-then-byte-eq-LINE_FEED c = c.loop-at.invariant.kept

pub returns-then-byte-eq-LINE_FEED : goal.returns-then-byte-eq-LINE_FEED
returns-then-byte-eq-LINE_FEED c =
    let l = c in
    let a = l.args in
    left-feed a.block.now a.from a.line.now a.count l.loop-at.line l.loop-at.at l.loop-at.held l.loop-at.invariant (omega arith) c.if-byte-eq-LINE_FEED.true

pub loop-at-preserved-then-line-held : goal.loop-at-preserved-then-line-held
loop-at-preserved-then-line-held c =
    let l = c in
    let a = l.args in
    left-full a.block.now a.from a.line.now a.count l.loop-at.line l.loop-at.at l.loop-at.held l.loop-at.invariant (omega arith)
    c.if-byte-eq-LINE_FEED.false (omega arith)

pub loop-at-preserved : goal.loop-at-preserved
loop-at-preserved c =
    let l = c in
    let a = l.args in
    left-more a.block.now a.from a.line.now a.count l.loop-at.line l.loop-at.at l.loop-at.held l.loop-at.invariant (omega arith)
    c.if-byte-eq-LINE_FEED.false (omega arith)

pub shape_of-line : goal.shape_of-line
shape_of-line c = c.loop-at.invariant.kept

pub returns : goal.returns
returns c =
    let l = c in
    let a = l.args in
    left_end a.block.now a.from a.line.now a.count l.loop-at.line l.loop-at.at l.loop-at.held l.loop-at.invariant (omega arith)
