-- Request #112, the numbers: of the two candidates of a thin stem the nearer is chosen, at most half a pixel from the centre, and both edges are about the one
-- chosen.
use mathlib.Core.Path.{◌≡◌, refl, sym, ◌∙◌}
use mathlib.Core.Bool.{Bool, true, false, cond}
use mathlib.Core.Logic.{inl, inr}
use Prim.Native.Nat.{◌+◌, ◌≤◌}
use native.Mathlib.Omega.{arith}
use borrow.Author.Tests.{ltb-true, ltb-false}
use lib.Dec.{ltb}
use lib.IntN.{ℤ, pos, ◌+ℤ◌, ◌-ℤ◌, ◌*ℤ◌}
use lib.Signed.{lt_z, le_z, quot_z}
use Rattle.signed.specs.Distance.{distance}
use Rattle.signed.specs.Parts.{up, dn}
use Rattle.signed.proofs.Operations.{quot-up, quot-dn}
use Rattle.signed.proofs.Signed.{nat_abs-is, one-zero, add-law, sub-law, times-up, times-dn, same, ◌also◌}
use Rattle.signed.proofs.Choices.{cond-true, cond_cases}
use Rattle.signed.proofs.By.{by₂}
use Rattle.fixed.specs.Pixel.{pix_round}
use Rattle.fixed.proofs.Pixels.{round-law}
use Rattle.stems_latin.specs.Latin.{centre_of, lower_offset, upper_offset, lower_centre, upper_centre, nearer_centre, thin_centre}
use Rattle.stems_latin.specs.Latin.{thin_first, thin_second, wide_first, anchored_first, anchored_second}
use Rattle.stems_latin.specs.Centre.{most_wander, Chosen, ChosenFor}

-- ---- the centre chosen
-- offsets of candidates that are a pixel apart
record Offsets (u d : ℤ) : Type 0 where
  below : dn u ≡ 0
  above : dn d ≡ 0
  a_pixel : up u + up d ≡ 64

-- those that a width decides are such
offsets : (w : ℤ) → Offsets (lower_offset w) (upper_offset w)
unfolding lower_offset upper_offset
offsets w = by (le_z w (pos 64)) _ _ _ _ (record { below = refl; above = refl; a_pixel = refl }) (record { below = refl; above = refl; a_pixel = refl })
  where
    by : (t : Bool) (a b x y : ℤ) → Offsets a x → Offsets b y → Offsets (cond t a b) (cond t x y)
    by true a b x y p q = p
    by false a b x y p q = q

-- by such offsets, the nearer of two candidates is chosen as request #112 says
nearer-chosen : (c u d : ℤ) → Offsets u d → Chosen c (lower_centre c u) (upper_centre c d) (nearer_centre c u d)
unfolding nearer_centre
nearer-chosen c u d o =
    let p = pix_round c in
    let l = lower_centre c u in
    let r = upper_centre c d in
    let apart : r ≡ l +ℤ pos 64 = same (omega (arith, o.below, o.above, o.a_pixel, sub-law p u, add-law p d, add-law l (pos 64))) in
    let from-lower = nat_abs-is (c -ℤ l) also one-zero (c -ℤ l) also sub-law c l also sub-law p u in
    let from-upper = nat_abs-is (c -ℤ r) also one-zero (c -ℤ r) also sub-law c r also add-law p d in
    cond_cases (Chosen c l r) (ltb (distance c l) (distance c r)) l r
    (λ t.
    let h = ltb-true (distance c l) (distance c r) t in
    record {
      one_of_both = inl refl;
      a_pixel_apart = apart;
      wanders = omega (arith, h, o.below, o.above, o.a_pixel, round-law c, from-lower, from-upper);
      lower_not_nearer = omega arith;
      upper_not_nearer = omega arith;
      upper_on_a_tie = λ e. absurd (omega arith);
    })
    (λ t.
    let h = ltb-false (distance c l) (distance c r) t in
    record {
      one_of_both = inr refl;
      a_pixel_apart = apart;
      wanders = omega (arith, h, o.below, o.above, o.a_pixel, round-law c, from-lower, from-upper);
      lower_not_nearer = omega arith;
      upper_not_nearer = omega arith;
      upper_on_a_tie = λ e. refl;
    })

-- the centre chosen for a stem of centre c and width w
pub chosen : (c w : ℤ) → ChosenFor c w (thin_centre c w)
unfolding thin_centre
chosen c w = nearer-chosen c (lower_offset w) (upper_offset w) (offsets w)

-- how far it is from c, as `omega` reads it
pub record Near (c r : ℤ) : Type 0 where
  pub low : up c + dn r ≤ up r + dn c + most_wander
  pub high : up r + dn c ≤ up c + dn r + most_wander

pub chosen-near : (c w : ℤ) → Near c (thin_centre c w)
chosen-near c w =
    let t = thin_centre c w in
    let h = (chosen c w).wanders in
    omega (arith, h, nat_abs-is (c -ℤ t), sub-law c t)

-- ---- the edges about it
-- the edges of a thin stem beside an anchor
pub first-thin : (start l w : ℤ) → lt_z w (pos 96) ≡ true → anchored_first start l w ≡ thin_centre (centre_of start l) w -ℤ quot_z w (pos 2)
unfolding anchored_first thin_first
first-thin start l w h = cond-true (lt_z w (pos 96)) (thin_first start l w) (wide_first start l w) h

pub second-thin : (start l w : ℤ) → lt_z w (pos 96) ≡ true → anchored_second start l w ≡ thin_centre (centre_of start l) w +ℤ quot_z w (pos 2)
unfolding anchored_second thin_second
second-thin start l w h = cond-true (lt_z w (pos 96)) (thin_second start l w) (wide_first start l w +ℤ w) h

-- they are equally far from the centre chosen, odd and negative widths included
pub about-chosen : (start l w : ℤ) → lt_z w (pos 96) ≡ true → anchored_first start l w +ℤ anchored_second start l w ≡ pos 2 *ℤ thin_centre (centre_of start l) w
about-chosen start l w h =
    let t = thin_centre (centre_of start l) w in
    let q = quot_z w (pos 2) in
    by₂ ◌+ℤ◌ refl (first-thin start l w h) (second-thin start l w h)
    ∙ same (omega (arith, sub-law t q, add-law t q, add-law (t -ℤ q) (t +ℤ q), times-up 2 t, times-dn 2 t))

-- and in one place where the width is 0
pub together : (start l w : ℤ) → w ≡ pos 0 → anchored_first start l w ≡ anchored_second start l w
together start l w e =
    let t = thin_centre (centre_of start l) (pos 0) in
    let q = quot_z (pos 0) (pos 2) in
    let one : t -ℤ q ≡ t +ℤ q = same (omega (arith, sub-law t q, add-law t q, quot-up (pos 0) 2, quot-dn (pos 0) 2)) in
    rw e (first-thin start l (pos 0) refl ∙ one ∙ sym (second-thin start l (pos 0) refl))
