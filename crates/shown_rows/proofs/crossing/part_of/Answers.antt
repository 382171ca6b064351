-- `shown_rows::crossing::part_of` meets its contract.
use mathlib.Core.Path.{◌≡◌, sym, ap, subst}
use Prim.Native.Nat.{ℕ, ◌*◌, ◌≤◌}
use native.Mathlib.Omega.{arith}
use Rattle.shown_rows.specs.Crossing.{ceiling}
use Rattle.shown_rows.proofs.Ceilings.{part-most, product-most}
use borrow.Author.Rules.{rules}
use Rattle.shown_rows.proofs.crossing.part_of.Goals as goal
use Rattle.shown_rows.proofs.crossing.part_of.Goals.{After-product-n}

pub overflow_add-result : goal.overflow_add-result
overflow_add-result c = let s = c.before in omega (arith, c.product-n.ensures, product-most s.args.x s.args.y (omega arith) (omega arith))

-- what comes out is no more than x
few : (c : After-product-n) → ceiling c.product-n.result c.args.d ≤ c.args.x
few c =
    let s = c.before in
    subst (λ (n : ℕ). ceiling n s.args.d ≤ s.args.x) (sym c.product-n.ensures)
    (part-most s.args.x s.args.y s.args.d (omega arith) (omega arith))

pub overflow_cast-result : goal.overflow_cast-result
overflow_cast-result c = record { fits = omega (arith, few c) }

pub returns : goal.returns
returns c = (ap (λ (n : ℕ). ceiling n c.args.d) c.product-n.ensures, omega (arith, few c))
