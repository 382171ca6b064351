-- `remaining::plan::between_pos` meets its contract.
use borrow.Author.Rules.{rules}
use native.Mathlib.Omega.{arith}
use mathlib.Core.Path.{◌≡◌, sym, ap, ◌∙◌}
use lib.IntN.{ℤ, ◌+ℤ◌, ◌-ℤ◌}
use mir.Syntax.{w32, w64}
use mir.Val.{to_z, of_z}
use Rattle.signed.specs.Equality.{eq_z}
use Rattle.signed.proofs.Signed.{signed, fits, is, got, nat_abs-is, eq_z-yes, eq_z-no}
use Rattle.signed.proofs.Choices.{cond-true, cond-false}
use Rattle.fixed_ratio.specs.Ratio.{mul_div}
use Rattle.remaining.specs.Plan.{between_pos}
use Rattle.remaining.proofs.Numbers.{apart-abs, part-most}
use Rattle.remaining.proofs.plan.between_pos.Goals as goal
use Rattle.remaining.proofs.plan.between_pos.Goals.{After-fixed_mul_div-part, After-from-2, Else-after_at-before_at, Start}

pub returns-then-after_at-before_at : goal.returns-then-after_at-before_at
unfolding between_pos
returns-then-after_at-before_at c =
    let s = c.before.before in
    is (got w64 c.from.result c.from.type_inv) ∙ c.from.ensures ∙ is s.ranges.before_pos
    ∙ sym (cond-true (eq_z s.args.after_at s.args.before_at) _ _
    (eq_z-yes s.args.after_at s.args.before_at (sym (is s.ranges.after_at) ∙ ap (to_z w32) c.if-after_at-before_at.true ∙ is s.ranges.before_at)))

pub overflow_sub-at : goal.overflow_sub-at
overflow_sub-at c = let p = c.requires in fits (omega (arith, signed, p))

pub overflow_sub-after_pos : goal.overflow_sub-after_pos
overflow_sub-after_pos c = let p = c.requires in fits (omega (arith, signed, p))

pub overflow_sub-after_at : goal.overflow_sub-after_at
overflow_sub-after_at c = let p = c.requires in fits (omega (arith, signed, p))

-- the two are not at one place
not_same : (c : Else-after_at-before_at) → c.args.after_at ≡ c.args.before_at → ⊥
not_same c e = c.if-after_at-before_at.false (ap (of_z w32) e)

pub fixed_mul_div-part-requires : goal.fixed_mul_div-part-requires
fixed_mul_div-part-requires c =
    let s = c.before in
    rw (is (overflow_sub-after_at c), is s.ranges.after_at, is s.ranges.before_at) (apart-abs s.args.after_at s.args.before_at (not_same c))

-- the part of the way, and where it starts
abbrev part_of : Start → ℤ
part_of s = let a = s.args in mul_div (a.at -ℤ a.before_at) (a.after_pos -ℤ a.before_pos) (a.after_at -ℤ a.before_at)

part-is : (c : After-fixed_mul_div-part) → to_z w64 (of_z w64 c.fixed_mul_div-part.result) ≡ part_of c.before.before
part-is c =
    let e = c.before in
    let f = e.ranges in
    is (got w64 c.fixed_mul_div-part.result c.fixed_mul_div-part.type_inv) ∙ c.fixed_mul_div-part.ensures
    ∙ λ i. mul_div ((is (overflow_sub-at e) ∙ λ j. is f.at j -ℤ is f.before_at j) i)
    ((is (overflow_sub-after_pos e) ∙ λ j. is f.after_pos j -ℤ is f.before_pos j) i)
    ((is (overflow_sub-after_at e) ∙ λ j. is f.after_at j -ℤ is f.before_at j) i)

start_is : (c : After-from-2) → to_z w64 (of_z w64 c.from-2.result) ≡ c.args.before_pos
start_is c = is (got w64 c.from-2.result c.from-2.type_inv) ∙ c.from-2.ensures ∙ is c.ranges.before_pos

pub overflow_add-result : goal.overflow_add-result
overflow_add-result c =
    let e = c.before.before in
    let s = e.before in
    let a = s.args in
    let p = s.requires in
    let r = part_of s in
    let most = part-most a.at a.before_at a.after_at a.before_pos a.after_pos p.between.0 p.between.1 p.between_2.0 p.between_2.1
    (apart-abs a.after_at a.before_at (not_same e)) in
    rw (start_is c, part-is c.before) (fits (omega (arith, signed, nat_abs-is r, most, p.between_2.0)))

pub returns : goal.returns
unfolding between_pos
returns c =
    let e = c.before.before in
    let a = e.args in
    is (overflow_add-result c) ∙ (λ i. start_is c i +ℤ part-is c.before i)
    ∙ sym (cond-false (eq_z a.after_at a.before_at) _ _ (eq_z-no a.after_at a.before_at (not_same e)))
