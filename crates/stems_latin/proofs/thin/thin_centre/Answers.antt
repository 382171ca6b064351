-- `stems_latin::thin::thin_centre` meets its contract.
use mathlib.Core.Path.{◌≡◌, sym, ap, ◌∙◌}
use mathlib.Core.Bool.{Bool, true, false}
use lib.IntN.{ℤ, pos}
use lib.Signed.{le_z}
use mir.Syntax.{w32}
use mir.Val.{to_z, of_z}
use Rattle.signed.proofs.Signed.{is, got}
use Rattle.stems_latin.specs.Latin.{lower_offset, upper_offset, nearer_centre, thin_centre}
use Rattle.signed.proofs.By.{by₃}
use Rattle.signed.proofs.Choices.{cond-true, cond-false}
use borrow.Author.Rules.{rules}
use Rattle.stems_latin.proofs.thin.thin_centre.Goals as goal
use Rattle.stems_latin.proofs.thin.thin_centre.Goals.{Start}

-- whether the width is at most a pixel, by the test of its bits
narrow : (c : Start) (b : Bool) → le_z (to_z w32 (of_z w32 c.args.width)) (pos 64) ≡ b → le_z c.args.width (pos 64) ≡ b
narrow c b h = ap (λ (z : ℤ). le_z z (pos 64)) (sym (is c.ranges.width)) ∙ h

pub returns-then-width-le64 : goal.returns-then-width-le64
unfolding thin_centre lower_offset upper_offset
returns-then-width-le64 c =
    let s = c.before.before in
    let h = narrow s true c.if-width-le64.true in
    is (got w32 c.nearer_centre.result c.nearer_centre.type_inv)
    ∙ by₃ nearer_centre c.nearer_centre.ensures (is s.ranges.centre) (sym (cond-true _ _ _ h)) (sym (cond-true _ _ _ h))

pub returns : goal.returns
unfolding thin_centre lower_offset upper_offset
returns c =
    let s = c.before.before in
    let h = narrow s false c.if-width-le64.false in
    is (got w32 c.nearer_centre-2.result c.nearer_centre-2.type_inv)
    ∙ by₃ nearer_centre c.nearer_centre-2.ensures (is s.ranges.centre) (sym (cond-false _ _ _ h)) (sym (cond-false _ _ _ h))
