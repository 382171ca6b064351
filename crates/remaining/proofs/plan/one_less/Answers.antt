-- `remaining::plan::one_less` meets its contract.
use borrow.Author.Rules.{rules}
use native.Mathlib.Omega.{arith}
use mathlib.Core.Path.{◌≡◌, ap}
use Prim.Native.Nat.{ℕ, ◌-◌}
use Rattle.remaining.proofs.plan.one_less.Goals as goal

pub returns-else-count-gt0 : goal.returns-else-count-gt0
returns-else-count-gt0 c =
    let p = c.args.past in
    let none : p.count ≡ p.count - 1 = omega (arith, c.if-count-gt0.false) in
    ap (λ (n : ℕ). record { anchor = p.anchor; count = n; beyond = p.beyond }) none
