-- `weak_known::contour::contour_write` meets its contract.
use native.Mathlib.Omega.{arith}
use mathlib.Core.Path.{ap, ◌∙◌}
use Prim.Native.Nat.{ℕ}
use Rattle.weak_known.specs.Walks.{prior_at, later_at}
use Rattle.weak_known.proofs.Rounds.{first-most, last-most, put-by, lone-is-before, lone-is-behind, more-is-before, more-is-behind}
use Rattle.weak_known.proofs.contour.contour_write.Goals as goal

pub returns-then-first-last : goal.returns-then-first-last
returns-then-first-last c = let t = c.args.touched.now in
    let ef = c.first_touched-first.ensures in
    let ep = c.last_touched-last.ensures in (
      put-by _ _ _ _ _ _ (lone-is-before t c.args.s c.args.e _ _ ef ep c.if-first-last.true)
          c.plain_write.ensures,
      put-by _ _ _ _ _ _ (lone-is-behind t c.args.s c.args.e _ _ ef ep c.if-first-last.true) c.plain_write-then-first-last.ensures,
    )

pub narrow-requires : goal.narrow-requires
narrow-requires c = omega (arith, c.last_touched-last.ensures, last-most c.args.touched.now c.args.s c.args.e (omega arith))

pub narrow-requires-2 : goal.narrow-requires-2
narrow-requires-2 c = omega (arith, c.first_touched-first.ensures, first-most c.args.touched.now c.args.s c.args.e (omega arith))

pub returns : goal.returns
returns c = let t = c.args.touched.now in
    let ef = c.first_touched-first.ensures in
    let ep = c.last_touched-last.ensures in (
      put-by _ _ _ _ _ _ (λ i a b. ap (λ (z : ℕ). prior_at t c.args.s z i) c.narrow.ensures
          ∙ more-is-before t c.args.s c.args.e _ _ ef ep c.if-first-last.false i a b) c.prior_write.ensures,
      put-by _ _ _ _ _ _ (λ i a b. ap (λ (z : ℕ). later_at t c.args.e z i) c.narrow-2.ensures
          ∙ more-is-behind t c.args.s c.args.e _ _ ef ep c.if-first-last.false i a b) c.later_write.ensures,
    )
