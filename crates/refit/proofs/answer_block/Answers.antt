-- `refit::answer_block` is safe and ends: every turn takes something of the block.
use Rattle.std.proofs.Common.{arith}
use Rattle.refit.proofs.answer_block.Goals as goal

pub loop-at-smaller : goal.loop-at-smaller
loop-at-smaller g c =
    let onward = c.refit_block-done.ensures.further c.loop-at-test.true (omega (arith, c.loop-at.invariant, c.requires.most_reply_in_bounds)) in
    omega (arith, onward, c.loop-at-test.true)
