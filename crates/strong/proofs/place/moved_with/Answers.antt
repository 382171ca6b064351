-- `strong::place::moved_with` meets its contract.
use borrow.Author.Rules.{rules}
use native.Mathlib.Omega.{arith}
use mathlib.Core.Path.{◌≡◌, sym, ap, ◌∙◌}
use lib.IntN.{ℤ, ◌+ℤ◌, ◌-ℤ◌}
use mir.Syntax.{w32}
use mir.Val.{to_z, of_z}
use Rattle.signed.proofs.Signed.{is, fits, signed, ◌also◌}
use Rattle.signed.proofs.By.{by₂}
use Rattle.axis.specs.Limits.{most_pos}
use Rattle.axis.specs.Refusals.{within}
use Rattle.strong.specs.declared.place.Place.TheVariants.{At}
use Rattle.strong.proofs.Places.{moved_at, moved-beyond}
use Rattle.strong.proofs.place.moved_with.Goals as goal
use Rattle.strong.proofs.place.moved_with.Goals.{After-is_inside, Start}

pub overflow_sub-z : goal.overflow_sub-z
overflow_sub-z c = let f = c.ranges in fits (omega (arith, signed))

pub overflow_add-z : goal.overflow_add-z
overflow_add-z c = let f = c.ranges also overflow_sub-z c in fits (omega (arith, signed))

-- the sum as the machine reads it
sum : (c : Start) → to_z w32 (of_z w32 (to_z w32 (of_z w32 c.args.pos) +ℤ to_z w32
    (of_z w32 (to_z w32 (of_z w32 c.args.v) -ℤ to_z w32 (of_z w32 c.args.opos))))) ≡ c.args.pos +ℤ (c.args.v -ℤ c.args.opos)
sum c = by₂ ◌+ℤ◌ (is (overflow_add-z c)) (is c.ranges.pos) (by₂ ◌-ℤ◌ (is (overflow_sub-z c)) (is c.ranges.v) (is c.ranges.opos))

-- what the test tells
told : (c : After-is_inside) → c.is_inside.result ≡ within most_pos (c.args.pos +ℤ (c.args.v -ℤ c.args.opos))
told c = c.is_inside.ensures ∙ ap (within most_pos) (sum c.before)

pub returns-then-is_inside : goal.returns-then-is_inside
returns-then-is_inside c =
    let t = c.before in
    let a = t.args in
    ap At (sum t.before) ∙ sym (moved_at a.v a.opos a.pos (sym (told t) ∙ c.if-is_inside.true))

pub returns : goal.returns
returns c =
    let t = c.before in
    let a = t.args in
    sym (moved-beyond a.v a.opos a.pos (sym (told t) ∙ c.if-is_inside.false))
