-- Request #102, the numbers: how wide a stem is drawn beside an anchor, and that a fitted width of a pixel and more is drawn so too.
use mathlib.Core.Path.{◌≡◌, refl, subst, sym, ◌∙◌}
use mathlib.Core.Bool.{Bool, true, false, cond}
use Prim.Native.Nat.{ℕ, ◌+◌, ◌*◌, ◌/◌, ◌≤◌}
use native.Mathlib.Omega.{arith}
use lib.IntN.{ℤ, pos, nat_abs, ◌+ℤ◌, ◌-ℤ◌}
use lib.Signed.{lt_z, quot_z}
use Rattle.signed.specs.Distance.{distance}
use Rattle.signed.proofs.Operations.{quot-up, quot-dn}
use Rattle.signed.proofs.Signed.{nat_abs-is, one-zero, add-law, sub-law}
use Rattle.signed.proofs.Choices.{cond-false, either_way}
use Rattle.signed.proofs.By.{by₂}
use Rattle.fixed.specs.Width.{one_pixel}
use Rattle.place.specs.Thin.{PixelApart}
use Rattle.stems_latin.specs.Latin.{centre_of, thin_centre, thin_first, thin_second, wide_first, anchored_first, anchored_second}
use Rattle.stems_latin.specs.Drawn.{drawn_width}
use Rattle.stems_latin.proofs.Chosen.{first-thin, second-thin}

-- below 96 each edge is half the width, fraction dropped, from the centre chosen
thin-drawn : (start l w : ℤ) → lt_z w (pos 96) ≡ true → distance (anchored_first start l w) (anchored_second start l w) ≡ 2 * (nat_abs w / 2)
thin-drawn start l w h =
    let t = thin_centre (centre_of start l) w in
    let q = quot_z w (pos 2) in
    let d = (t -ℤ q) -ℤ (t +ℤ q) in
    by₂ distance refl (first-thin start l w h) (second-thin start l w h)
    ∙ omega (arith, nat_abs-is w, one-zero w, nat_abs-is d, one-zero d, sub-law (t -ℤ q) (t +ℤ q), sub-law t q, add-law t q, quot-up w 2, quot-dn w 2)

-- else the second edge is the width behind the first
wide-drawn : (start l w : ℤ) → lt_z w (pos 96) ≡ false → distance (anchored_first start l w) (anchored_second start l w) ≡ nat_abs w
unfolding anchored_first anchored_second
wide-drawn start l w h =
    let p = wide_first start l w in
    let d = p -ℤ (p +ℤ w) in
    by₂ distance refl (cond-false (lt_z w (pos 96)) (thin_first start l w) p h) (cond-false (lt_z w (pos 96)) (thin_second start l w) (p +ℤ w) h)
    ∙ omega (arith, nat_abs-is w, one-zero w, nat_abs-is d, one-zero d, sub-law p (p +ℤ w), add-law p w)

-- exactly that wide, for every start, original length and width
pub drawn : (start l w : ℤ) → distance (anchored_first start l w) (anchored_second start l w) ≡ drawn_width w
drawn start l w = by (lt_z w (pos 96)) refl
  where
    by : (t : Bool) → lt_z w (pos 96) ≡ t → distance (anchored_first start l w) (anchored_second start l w) ≡ cond t (2 * (nat_abs w / 2)) (nat_abs w)
    by true h = thin-drawn start l w h
    by false h = wide-drawn start l w h

-- at most a unit is lost
pub a-unit-lost : (w : ℤ) → nat_abs w ≤ drawn_width w + 1
a-unit-lost w = either_way (λ (n : ℕ). nat_abs w ≤ n + 1) (lt_z w (pos 96)) (2 * (nat_abs w / 2)) (nat_abs w) (omega arith) (omega arith)

-- and none of a pixel
pub pixel-drawn : (w : ℤ) → one_pixel ≤ nat_abs w → one_pixel ≤ drawn_width w
pixel-drawn w h = either_way (λ (n : ℕ). one_pixel ≤ n) (lt_z w (pos 96)) (2 * (nat_abs w / 2)) (nat_abs w) (omega (arith, h)) h

pub drawn-apart : (start l w : ℤ) → one_pixel ≤ nat_abs w → PixelApart (anchored_first start l w) (anchored_second start l w)
drawn-apart start l w h = subst (λ (n : ℕ). one_pixel ≤ n) (sym (drawn start l w)) (pixel-drawn w h)
