-- `refit::answer_block` is safe and ends: every turn takes something of the block, and keeps the buffers' lengths.
use Rattle.std.proofs.Common.{◌≡◌, ◌+◌, ◌-◌, ◌*◌, ◌≤◌, ◌<◌, length}
use Rattle.refit.proofs.answer_block.Given as goal

abbrev pub invariant-loop-at : goal.invariant-loop-at
invariant-loop-at g l = (length l.line ≡ length l.initial.line) × ((length l.out ≡ length l.initial.out) × (l.count ≤ length l.line))

abbrev pub decreases-loop-at : goal.decreases-loop-at
decreases-loop-at g l = length l.block - l.at
