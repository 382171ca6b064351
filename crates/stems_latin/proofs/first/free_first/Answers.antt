-- `stems_latin::first::free_first` meets its contract.
use mathlib.Core.Path.{◌≡◌, sym, ap, ◌∙◌}
use mathlib.Core.Bool.{Bool, true, false}
use native.Mathlib.Omega.{arith}
use lib.IntN.{ℤ, pos}
use lib.Signed.{lt_z}
use mir.Syntax.{w32}
use mir.Val.{to_z, of_z}
use Rattle.signed.proofs.Signed.{is, got, signed}
use Rattle.fixed.specs.Pixel.{pix_round}
use Rattle.stems_latin.specs.Latin.{thin_first, free_first}
use Rattle.signed.proofs.By.{by₃}
use Rattle.signed.proofs.Choices.{cond-true, cond-false}
use Rattle.stems_latin.proofs.first.free_first.Goals as goal
use Rattle.stems_latin.proofs.first.free_first.Goals.{Start}

pub thin_first-requires : goal.thin_first-requires
thin_first-requires c = (omega (arith, signed), omega (arith, signed), omega (arith, signed))

-- whether the stem is thin, by the test of its width's bits
thin : (c : Start) (b : Bool) → lt_z (to_z w32 (of_z w32 c.args.width)) (pos 96) ≡ b → lt_z c.args.width (pos 96) ≡ b
thin c b h = ap (λ (z : ℤ). lt_z z (pos 96)) (sym (is c.ranges.width)) ∙ h

pub returns-then-width-lt96 : goal.returns-then-width-lt96
unfolding free_first
returns-then-width-lt96 c =
    let s = c.before.before in
    let f = s.ranges in
    is (got w32 c.thin_first.result c.thin_first.type_inv) ∙ by₃ thin_first c.thin_first.ensures (is f.opos) (is f.org_len) (is f.width)
    ∙ sym (cond-true _ _ _ (thin s true c.if-width-lt96.true))

pub pix_round-requires : goal.pix_round-requires
pix_round-requires c = omega (arith, signed)

pub returns : goal.returns
unfolding free_first
returns c =
    let s = c.before.before in
    is (got w32 c.pix_round.result c.pix_round.type_inv) ∙ c.pix_round.ensures ∙ ap pix_round (is s.ranges.opos)
    ∙ sym (cond-false _ _ _ (thin s false c.if-width-lt96.false))
