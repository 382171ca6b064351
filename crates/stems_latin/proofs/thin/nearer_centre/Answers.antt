-- `stems_latin::thin::nearer_centre` meets its contract.
use mathlib.Core.Path.{◌≡◌, ap, ◌∙◌}
use mathlib.Core.Bool.{cond}
use native.Mathlib.Omega.{arith}
use lib.Dec.{ltb}
use lib.IntN.{ℤ, nat_abs, ◌+ℤ◌, ◌-ℤ◌}
use mir.Syntax.{w32}
use mir.Val.{to_z, of_z}
use Rattle.signed.proofs.Signed.{fits, is, got, ◌also◌, signed}
use Rattle.fixed.specs.Pixel.{pix_round}
use Rattle.fixed.proofs.Pixels.{round-law}
use Rattle.stems_latin.specs.Latin.{nearer_centre}
use Rattle.signed.proofs.By.{by₂, by₄}
use borrow.Author.Rules.{rules}
use Rattle.stems_latin.proofs.thin.nearer_centre.Goals as goal
use Rattle.stems_latin.proofs.thin.nearer_centre.Goals.{After-pix_round-cur_pos1}

pub pix_round-cur_pos1-requires : goal.pix_round-cur_pos1-requires
pix_round-cur_pos1-requires c = omega (arith, signed)

-- the pixel edge nearest to the centre
round_is : (c : After-pix_round-cur_pos1) → to_z w32 (of_z w32 c.pix_round-cur_pos1.result) ≡ pix_round c.args.centre
round_is c = is (got w32 c.pix_round-cur_pos1.result c.pix_round-cur_pos1.type_inv) ∙ c.pix_round-cur_pos1.ensures ∙ ap pix_round (is c.ranges.centre)

pub overflow_sub-lower : goal.overflow_sub-lower
overflow_sub-lower c = let k = round_is c in fits (omega (arith, signed, round-law c.args.centre))

pub overflow_add-upper : goal.overflow_add-upper
overflow_add-upper c = let k = round_is c in fits (omega (arith, signed, round-law c.args.centre))

pub overflow_sub-centre : goal.overflow_sub-centre
overflow_sub-centre c = let k = round_is c also overflow_sub-lower c in fits (omega (arith, signed, round-law c.args.centre))

pub overflow_sub-centre-2 : goal.overflow_sub-centre-2
overflow_sub-centre-2 c = let k = round_is c also overflow_add-upper c in fits (omega (arith, signed, round-law c.args.centre))

pub returns : goal.returns
unfolding nearer_centre
returns c =
    let r = c.before in
    let f = r.ranges in
    let lower = by₂ ◌-ℤ◌ (is (overflow_sub-lower r)) (round_is r) (is f.u_off) in
    let upper = by₂ ◌+ℤ◌ (is (overflow_add-upper r)) (round_is r) (is f.d_off) in
    is (got w32 c.nearer_of.result c.nearer_of.type_inv)
    ∙ by₄ (λ (a b p q : ℤ). cond (ltb (nat_abs a) (nat_abs b)) p q) c.nearer_of.ensures
    (by₂ ◌-ℤ◌ (is (overflow_sub-centre r)) (is f.centre) lower)
    (by₂ ◌-ℤ◌ (is (overflow_sub-centre-2 r)) (is f.centre) upper)
    lower
    upper
