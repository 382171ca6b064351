-- `remaining::plan::spaced_pos` meets its contract.
use borrow.Author.Rules.{rules}
use native.Mathlib.Omega.{arith}
use mathlib.Core.Path.{sym, ap, subst, ◌∙◌}
use lib.IntN.{pos, ◌+ℤ◌, ◌-ℤ◌}
use mir.Syntax.{w32}
use Rattle.signed.proofs.Signed.{signed, fits, is, got, ◌also◌}
use Rattle.remaining.specs.Plan.{half_floor, spaced_pos}
use Rattle.remaining.proofs.Numbers.{Halved, half-law}
use Rattle.remaining.proofs.plan.spaced_pos.Goals as goal

pub overflow_sub-opos : goal.overflow_sub-opos
overflow_sub-opos c = fits (omega (arith, signed))

pub overflow_add-opos : goal.overflow_add-opos
overflow_add-opos c = let k = overflow_sub-opos c in fits (omega (arith, signed))

pub overflow_add-result : goal.overflow_add-result
overflow_add-result c =
    let s = c.before in
    let r = c.half_floor-apart in
    let k = overflow_sub-opos s also overflow_add-opos s also got w32 r.result r.type_inv in
    let h = subst (Halved _) (sym r.ensures) (half-law _) in
    fits (omega (arith, signed, h.not_above, h.next_above))

pub returns : goal.returns
unfolding spaced_pos
returns c =
    let s = c.before in
    let r = c.half_floor-apart in
    is (overflow_add-result c)
    ∙ λ i. is s.ranges.anchor_pos i
    +ℤ (is (got w32 r.result r.type_inv) ∙ r.ensures
    ∙ ap half_floor (is (overflow_add-opos s) ∙ λ j. (is (overflow_sub-opos s) ∙ λ k. is s.ranges.opos k -ℤ is s.ranges.anchor_opos k) j +ℤ pos 16)) i
