-- `stems_latin::anchored::anchored_second` meets its contract.
use mathlib.Core.Path.{◌≡◌, sym, ap, ◌∙◌}
use mathlib.Core.Bool.{Bool, true, false}
use native.Mathlib.Omega.{arith}
use lib.IntN.{pos, ◌+ℤ◌}
use lib.Signed.{le_z}
use mir.Syntax.{w32}
use mir.Val.{to_z, of_z}
use Rattle.signed.proofs.Signed.{fits, is, got, signed}
use Rattle.stems_latin.specs.Latin.{thin_second, wide_first, anchored_first, anchored_second}
use Rattle.signed.proofs.By.{by₂, by₃}
use Rattle.signed.proofs.Choices.{cond-true, cond-false}
use Rattle.stems_latin.proofs.Choices.{not-thin, thin}
use Rattle.stems_latin.proofs.Moves.{most-ends, wide-first-range}
use borrow.Author.Rules.{rules}
use Rattle.stems_latin.proofs.anchored.anchored_second.Goals as goal
use Rattle.stems_latin.proofs.anchored.anchored_second.Goals.{Start, Then-width-ge96}

-- whether the stem is wide, by the test of its width's bits
wide : (c : Start) (b : Bool) → le_z (pos 96) (to_z w32 (of_z w32 c.args.width)) ≡ b → le_z (pos 96) c.args.width ≡ b
wide c b h = ap (le_z (pos 96)) (sym (is c.ranges.width)) ∙ h

-- the first edge of a wide stem
first_is : (c : Then-width-ge96) → c.args.first ≡ wide_first c.args.start c.args.org_len c.args.width
unfolding anchored_first
first_is c = let s = c.before in s.requires.first_value ∙ cond-false _ _ _ (not-thin s.args.width (wide s true c.if-width-ge96.true))

pub overflow_add-result : goal.overflow_add-result
overflow_add-result c =
    let s = c.before in
    let k = first_is c in
    fits (omega (
      arith,
      signed,
      wide-first-range _ _ _ _
          (most-ends s.args.start s.args.org_len s.args.width s.requires.between.0 s.requires.between.1 s.requires.between.2),
    ))

pub returns-then-width-ge96 : goal.returns-then-width-ge96
unfolding anchored_second
returns-then-width-ge96 c =
    let s = c.before in
    by₂ ◌+ℤ◌ (is (overflow_add-result c)) (is s.ranges.first ∙ first_is c) (is s.ranges.width)
    ∙ sym (cond-false _ _ _ (not-thin s.args.width (wide s true c.if-width-ge96.true)))

pub returns : goal.returns
unfolding anchored_second
returns c =
    let s = c.before.before in
    let f = s.ranges in
    is (got w32 c.thin_second.result c.thin_second.type_inv) ∙ by₃ thin_second c.thin_second.ensures (is f.start) (is f.org_len) (is f.width)
    ∙ sym (cond-true _ _ _ (thin s.args.width (wide s false c.if-width-ge96.false)))
