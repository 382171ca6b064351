-- `log_lines::cutter::take_line` meets its contract. The invariant: what is left of the block gives what the call owes.
use borrow.Author.Rules.{rules}
use native.Mathlib.Omega.{arith}
use Prim.Native.Nat.{◌-◌}
use lib.ListN.{length}
use Rattle.log_lines.proofs.Turns.{Left, left-all, left-full, left-more, left-feed, left_end}
use Rattle.log_lines.proofs.cutter.take_line.Given as goal

abbrev pub invariant-loop-at : goal.invariant-loop-at
invariant-loop-at l = Left l.block l.from l.initial.line l.count l.line l.at l.held

abbrev pub decreases-loop-at : goal.decreases-loop-at
decreases-loop-at l = length l.block - l.at
