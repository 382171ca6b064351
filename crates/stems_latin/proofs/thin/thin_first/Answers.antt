-- `stems_latin::thin::thin_first` meets its contract.
use mathlib.Core.Path.{◌≡◌, ap, ◌∙◌}
use native.Mathlib.Omega.{arith}
use lib.IntN.{ℤ, pos, ◌-ℤ◌}
use lib.Signed.{quot_z}
use mir.Syntax.{w32}
use Rattle.signed.proofs.Operations.{quot-up, quot-dn}
use Rattle.signed.proofs.Signed.{fits, is, got, ◌also◌, signed}
use Rattle.stems_latin.specs.Latin.{centre_of, thin_centre, thin_first}
use Rattle.signed.proofs.By.{by₂}
use Rattle.stems_latin.proofs.Chosen.{chosen-near}
use Rattle.stems_latin.proofs.Moves.{centre-range}
use borrow.Author.Rules.{rules}
use Rattle.stems_latin.proofs.thin.thin_first.Goals as goal
use Rattle.stems_latin.proofs.thin.thin_first.Goals.{After-centre_of, After-half, After-thin_centre}

-- the centre that the start and the length give
centre-is : (c : After-centre_of) → c.centre_of.result ≡ centre_of c.args.start c.args.org_len
centre-is c = let f = c.ranges in by₂ centre_of c.centre_of.ensures (is f.start) (is f.org_len)

pub thin_centre-requires : goal.thin_centre-requires
thin_centre-requires c =
    let s = c.before in
    let e = centre-is c also got w32 c.centre_of.result c.centre_of.type_inv in
    omega (arith, signed, centre-range s.args.start s.args.org_len s.requires.0 s.requires.1)

-- the centre chosen
chosen_is : (c : After-thin_centre) → c.thin_centre.result
    ≡ thin_centre (centre_of c.args.start c.args.org_len) c.args.width
chosen_is c =
    let m = c.before in
    by₂ thin_centre c.thin_centre.ensures (is (got w32 m.centre_of.result m.centre_of.type_inv) ∙ centre-is m) (is m.ranges.width)

-- half the width, its fraction dropped
half_is : (c : After-half) → c.half.result ≡ quot_z c.args.width (pos 2)
half_is c = c.half.ensures ∙ ap (λ (z : ℤ). quot_z z (pos 2)) (is c.ranges.width)

pub overflow_sub-result : goal.overflow_sub-result
overflow_sub-result c =
    let m = c.before in
    let s = m.before.before in
    let e = chosen_is m also got w32 m.thin_centre.result m.thin_centre.type_inv also half_is c also got w32 c.half.result c.half.type_inv in
    let r = centre-range s.args.start s.args.org_len s.requires.0 s.requires.1 in
    fits (omega (
      arith,
      signed,
      r,
      chosen-near (centre_of s.args.start s.args.org_len) s.args.width,
      quot-up s.args.width 2,
      quot-dn
          s.args.width 2,
    ))

pub returns : goal.returns
unfolding thin_first
returns c =
    let m = c.before in
    by₂ ◌-ℤ◌ (is (overflow_sub-result c)) (is (got w32 m.thin_centre.result m.thin_centre.type_inv) ∙ chosen_is m)
    (is (got w32 c.half.result c.half.type_inv) ∙ half_is c)
