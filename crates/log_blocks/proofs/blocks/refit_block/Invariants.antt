-- `log_blocks::blocks::refit_block` meets its contract. The invariant: what is written and what is left give the whole.
use Prim.Native.Nat.{◌-◌}
use lib.ListN.{length}
use Rattle.log_blocks.proofs.Onward.{Onward}
use Rattle.log_blocks.proofs.blocks.refit_block.Given as goal

abbrev pub invariant-loop-at : goal.invariant-loop-at
invariant-loop-at l = Onward l.block l.from l.initial.line l.count l.initial.out l.line l.out l.at l.held l.size

abbrev pub decreases-loop-at : goal.decreases-loop-at
decreases-loop-at l = length l.block - l.at
