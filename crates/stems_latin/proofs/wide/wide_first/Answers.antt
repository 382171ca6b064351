-- `stems_latin::wide::wide_first` meets its contract.
use mathlib.Core.Path.{◌≡◌, ap, ◌∙◌}
use mathlib.Core.Bool.{cond}
use native.Mathlib.Omega.{arith}
use lib.Dec.{ltb}
use lib.IntN.{ℤ, nat_abs, ◌+ℤ◌, ◌-ℤ◌}
use lib.Signed.{shr_z}
use mir.Syntax.{w32}
use mir.Val.{to_z, of_z}
use Rattle.signed.proofs.Signed.{fits, is, got, shr-law, add-law, ◌also◌, signed}
use Rattle.fixed.specs.Pixel.{pix_round}
use Rattle.fixed.proofs.Pixels.{round-law}
use Rattle.stems_latin.specs.Latin.{centre_of, by_first, by_second, wide_first}
use Rattle.signed.proofs.By.{by₂, by₄}
use Rattle.stems_latin.proofs.Moves.{centre-range}
use borrow.Author.Rules.{rules}
use Rattle.stems_latin.proofs.wide.wide_first.Goals as goal
use Rattle.stems_latin.proofs.wide.wide_first.Goals.{After-centre_of-centre, After-half-half_width, After-pix_round, After-pix_round-cur_pos1, Start}

-- the centre that the start and the length give
centre-is : (c : After-centre_of-centre) → to_z w32 (of_z w32 c.centre_of-centre.result) ≡ centre_of c.args.start c.args.org_len
centre-is c =
    let f = c.ranges in is (got w32 c.centre_of-centre.result c.centre_of-centre.type_inv) ∙ by₂ centre_of c.centre_of-centre.ensures (is f.start) (is f.org_len)

-- half the width, rounded down
half_is : (c : After-half-half_width) → to_z w32 (of_z w32 c.half-half_width.result) ≡ shr_z c.args.width 2
half_is c = is (got w32 c.half-half_width.result c.half-half_width.type_inv) ∙ c.half-half_width.ensures ∙ ap (λ (z : ℤ). shr_z z 2) (is c.ranges.width)

pub pix_round-cur_pos1-requires : goal.pix_round-cur_pos1-requires
pix_round-cur_pos1-requires c = omega (arith, signed)

-- the pixel edge nearest to the start
start-round-is : (c : After-pix_round-cur_pos1) → to_z w32 (of_z w32 c.pix_round-cur_pos1.result) ≡ by_first c.args.start
start-round-is c = is (got w32 c.pix_round-cur_pos1.result c.pix_round-cur_pos1.type_inv) ∙ c.pix_round-cur_pos1.ensures ∙ ap pix_round (is c.ranges.start)

pub overflow_add-start : goal.overflow_add-start
overflow_add-start c = fits (omega (arith, signed))

pub pix_round-requires : goal.pix_round-requires
pix_round-requires c = let k = overflow_add-start c in omega (arith, signed)

-- the function's start, from where the end is rounded
abbrev start : After-pix_round → Start
start c = c.before.before.before.before

-- the pixel edge nearest to the end
end-round-is : (c : After-pix_round) → to_z w32 (of_z w32 c.pix_round.result) ≡ pix_round ((start c).args.start +ℤ (start c).args.org_len)
end-round-is c =
    let f = (start c).ranges in
    is (got w32 c.pix_round.result c.pix_round.type_inv) ∙ c.pix_round.ensures
    ∙ ap pix_round (by₂ ◌+ℤ◌ (is (overflow_add-start c.before)) (is f.start) (is f.org_len))

pub overflow_sub-cur_pos2 : goal.overflow_sub-cur_pos2
overflow_sub-cur_pos2 c =
    let s = start c in
    let k = end-round-is c in
    fits (omega (arith, signed, round-law (s.args.start +ℤ s.args.org_len), add-law s.args.start s.args.org_len))

-- the first edge where the second is on that pixel edge
second_is : (c : After-pix_round)
    → to_z w32 (of_z w32 (to_z w32 (of_z w32 c.pix_round.result) -ℤ to_z w32 (of_z w32 (start c).args.width)))
    ≡ by_second (start c).args.start (start c).args.org_len (start c).args.width
second_is c = by₂ ◌-ℤ◌ (is (overflow_sub-cur_pos2 c)) (end-round-is c) (is (start c).ranges.width)

pub overflow_add-cur_pos1 : goal.overflow_add-cur_pos1
overflow_add-cur_pos1 c =
    let s = start c in
    let k = start-round-is c.before also half_is c.before.before in
    fits (omega (arith, signed, round-law s.args.start, shr-law s.args.width 2 tt))

pub overflow_sub-cur_pos1 : goal.overflow_sub-cur_pos1
overflow_sub-cur_pos1 c =
    let s = start c in
    let k = start-round-is c.before also half_is c.before.before also overflow_add-cur_pos1 c also centre-is c.before.before.before in
    fits (omega (
      arith,
      signed,
      round-law s.args.start,
      shr-law s.args.width 2 tt,
      centre-range s.args.start s.args.org_len s.requires.0
          s.requires.1,
    ))

pub overflow_add-cur_pos2 : goal.overflow_add-cur_pos2
overflow_add-cur_pos2 c =
    let s = start c in
    let k = end-round-is c also half_is c.before.before also overflow_sub-cur_pos2 c in
    fits (omega (arith, signed, round-law (s.args.start +ℤ s.args.org_len), add-law s.args.start s.args.org_len, shr-law s.args.width 2 tt))

pub overflow_sub-cur_pos2-2 : goal.overflow_sub-cur_pos2-2
overflow_sub-cur_pos2-2 c =
    let s = start c in
    let k = end-round-is c also half_is c.before.before also overflow_sub-cur_pos2 c also overflow_add-cur_pos2 c also centre-is c.before.before.before in
    let end = add-law s.args.start s.args.org_len in
    let centre = centre-range s.args.start s.args.org_len s.requires.0 s.requires.1 in
    fits (omega (arith, signed, round-law (s.args.start +ℤ s.args.org_len), end, shr-law s.args.width 2 tt, centre))

pub returns : goal.returns
unfolding wide_first
returns c =
    let e = c.before in
    let p = start-round-is e.before in
    let h = half_is e.before.before in
    let m = centre-is e.before.before.before in
    is (got w32 c.nearer_of.result c.nearer_of.type_inv)
    ∙ by₄ (λ (a b p q : ℤ). cond (ltb (nat_abs a) (nat_abs b)) p q) c.nearer_of.ensures
    (by₂ ◌-ℤ◌ (is (overflow_sub-cur_pos1 e)) (by₂ ◌+ℤ◌ (is (overflow_add-cur_pos1 e)) p h) m)
    (by₂ ◌-ℤ◌ (is (overflow_sub-cur_pos2-2 e)) (by₂ ◌+ℤ◌ (is (overflow_add-cur_pos2 e)) (second_is e) h) m)
    p
    (second_is e)
