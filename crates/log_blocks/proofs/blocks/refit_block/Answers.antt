-- `log_blocks::blocks::refit_block` meets its contract. The invariant: what is written and what is left give the whole.
use native.Mathlib.Omega.{arith}
use mathlib.Core.Path.{sym}
use Prim.Native.Nat.{◌≤◌}
use lib.ListN.{length}
use lib.Seq.{length-take-le}
use Rattle.log_lines.proofs.Streams.{count-few, further}
use Rattle.log_blocks.proofs.Onward.{onward-none, onward-held, onward-ended, onward-full, onward-all}
use Rattle.log_blocks.proofs.blocks.refit_block.Goals as goal

pub loop-at-init : goal.loop-at-init
loop-at-init c = let a = c.args in onward-none a.block.now a.from a.line.now a.count a.out.now c.requires.1

pub overflow_sub-out : goal.overflow_sub-out
overflow_sub-out c = omega (arith, c.loop-at.invariant)

pub shape_of-line-then-out-size-lt-MOST_REPLY : goal.shape_of-line-then-out-size-lt-MOST_REPLY
shape_of-line-then-out-size-lt-MOST_REPLY c = c.loop-at.invariant.list_kept

pub shape_of-out-then-out-size-lt-MOST_REPLY : goal.shape_of-out-then-out-size-lt-MOST_REPLY
shape_of-out-then-out-size-lt-MOST_REPLY c = c.loop-at.invariant.out_kept

pub returns-then-out-size-lt-MOST_REPLY : goal.returns-then-out-size-lt-MOST_REPLY
returns-then-out-size-lt-MOST_REPLY c = let a = c.args in
    onward-full a.block.now a.from a.line.now a.count a.out.now c.loop-at.line c.loop-at.out c.loop-at.at c.loop-at.held c.loop-at.size
    c.loop-at.invariant c.if-out-size-lt-MOST_REPLY.true

pub slice_bounds-append_reply-end : goal.slice_bounds-append_reply-end
slice_bounds-append_reply-end c =
    let few : c.take_line-taken.result.count ≤ length c.take_line-taken.new.line = count-few _ c.loop-at.at c.loop-at.line c.loop-at.held _ _ c.take_line-taken.ensures in
    few

pub slice_bounds-append_reply-end-then-taken : goal.slice_bounds-append_reply-end-then-taken
slice_bounds-append_reply-end-then-taken c =
    let few : c.take_line-taken.result.count ≤ length c.take_line-taken.new.line = count-few _ c.loop-at.at c.loop-at.line c.loop-at.held _ _ c.take_line-taken.ensures in
    sym (length-take-le _ _ few)

pub append_reply-size-requires : goal.append_reply-size-requires
append_reply-size-requires c = omega (
  arith,
  c.loop-at.invariant,
  c.if-out-size-lt-MOST_REPLY.false,
)

pub loop-at-smaller-then-taken : goal.loop-at-smaller-then-taken
loop-at-smaller-then-taken c = omega (
  arith,
  c.loop-at-test.true,
  further _ c.loop-at.at
      c.loop-at.line c.loop-at.held _ _ c.take_line-taken.ensures
      c.loop-at-test.true,
)

pub loop-at-preserved-then-taken : goal.loop-at-preserved-then-taken
loop-at-preserved-then-taken c = let a = c.args in
    onward-ended a.block.now a.from a.line.now a.count a.out.now c.loop-at.line c.loop-at.out c.loop-at.at c.loop-at.held
    c.loop-at.size c.loop-at.invariant c.requires.0 c.loop-at-test.true _ _
    c.take_line-taken.ensures c.if-taken.true _ _
    c.append_reply-size.auto.out c.append_reply-size.ensures

pub loop-at-smaller : goal.loop-at-smaller
loop-at-smaller c = omega (
  arith,
  c.loop-at-test.true,
  further _ c.loop-at.at c.loop-at.line c.loop-at.held _ _
      c.take_line-taken.ensures c.loop-at-test.true,
)

pub loop-at-preserved : goal.loop-at-preserved
loop-at-preserved c = let a = c.args in
    onward-held a.block.now a.from a.line.now a.count a.out.now c.loop-at.line c.loop-at.out c.loop-at.at c.loop-at.held c.loop-at.size
    c.loop-at.invariant c.requires.0
    c.loop-at-test.true _ _ c.take_line-taken.ensures c.if-taken.false

pub shape_of-line : goal.shape_of-line
shape_of-line c = c.loop-at.invariant.list_kept

pub shape_of-out : goal.shape_of-out
shape_of-out c = c.loop-at.invariant.out_kept

pub returns : goal.returns
returns c = let a = c.args in
    onward-all a.block.now a.from a.line.now a.count a.out.now c.loop-at.line c.loop-at.out c.loop-at.at c.loop-at.held c.loop-at.size
    c.loop-at.invariant c.loop-at-test.false
