-- `stems_cjk::gap::max_gap` meets its contract.
use native.Mathlib.Omega.{arith}
use Rattle.signed.proofs.Signed.{i32, signed}
use Rattle.stems_cjk.specs.Cjk.{max_gap}
use borrow.Author.Rules.{rules}
use Rattle.stems_cjk.proofs.gap.max_gap.Goals as goal

pub returns-in-Horizontal : goal.returns-in-Horizontal
unfolding max_gap
returns-in-Horizontal c = (rw c.in-Horizontal.is, i32 (omega (arith, signed)) tt tt)

pub returns-in-Vertical : goal.returns-in-Vertical
unfolding max_gap
returns-in-Vertical c = (rw c.in-Vertical.is, i32 (omega (arith, signed)) tt tt)
