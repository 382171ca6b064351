-- `weak::accept::ends_hold` meets its contract. The invariant: the ends hold where those that are left do, from `start` on.
use native.Mathlib.Omega.{arith}
use mathlib.Core.Path.{sym, ap, ◌∙◌}
use Prim.Native.Nat.{ℕ, ◌+◌}
use lib.ListN.{drop}
use Rattle.weak.specs.Weak.{ends_hold}
use Rattle.weak.proofs.Refusals.{ends_low, ends-high, ends_on, ends-end}
use Rattle.weak.proofs.accept.ends_hold.Goals as goal

pub returns-then-end-start : goal.returns-then-end-start
returns-then-end-start c = let a = c.args in
    sym (c.loop-x.invariant ∙ ends_low c.loop-x.start a.count a.ends.now c.loop-x.x-index (omega arith) (omega arith))

pub returns-then-count-end : goal.returns-then-count-end
returns-then-count-end c = let a = c.args in
    sym (c.loop-x.invariant ∙ ends-high c.loop-x.start a.count a.ends.now c.loop-x.x-index (omega arith) (omega arith) (omega arith))

pub loop-x-preserved : goal.loop-x-preserved
loop-x-preserved c = let a = c.args in
    let e = c.loop-x.invariant ∙ ends_on c.loop-x.start a.count a.ends.now c.loop-x.x-index (omega arith) (omega arith) (omega arith) in
    e ∙ ap (λ (x : ℕ). ends_hold (x + 1) a.count (drop (c.loop-x.x-index + 1) a.ends.now)) (sym c.from-end.ensures)

pub returns : goal.returns
returns c = let a = c.args in
    sym (c.loop-x.invariant ∙ ends-end c.loop-x.start a.count a.ends.now c.loop-x.x-index (omega arith))
