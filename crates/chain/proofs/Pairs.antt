-- Which stems the guard can find lost: a Latin stem beside an anchor, before the neighbour bound.
use mathlib.Core.Path.{◌≡◌, refl, subst, ◌∙◌}
use mathlib.Core.Bool.{Bool, true, false}
use native.Mathlib.Omega.{arith}
use lib.Dec.{ltb}
use lib.IntN.{ℤ, pos, ◌+ℤ◌, ◌-ℤ◌, ◌*ℤ◌}
use lib.Signed.{lt_z, le_z, quot_z, shr_z, ◌≤ℤ◌, ◌<ℤ◌}
use Rattle.signed.specs.Distance.{distance}
use Rattle.signed.proofs.By.{by₂}
use Rattle.signed.proofs.Choices.{either_way}
use Rattle.signed.proofs.Operations.{quot-up, quot-dn}
use Rattle.signed.proofs.Signed.{signed, one-zero, add-law, sub-law, mul-up, mul-dn, same}
use Rattle.fixed.specs.Pixel.{pix_floor, pix_round}
use Rattle.stems_latin.specs.Latin.{
  centre_of,
  lower_offset,
  upper_offset,
  lower_centre,
  upper_centre,
  nearer_centre,
  thin_centre,
  thin_first,
  thin_second,
  wide_first,
  anchored_first,
  anchored_second,
}
use Rattle.stems_latin.proofs.Chosen.{first-thin, second-thin}
use Rattle.gaps.specs.Gaps.{centre, row_from, rows, gone}
use Rattle.gaps.proofs.Losing.{row_stays}
use Rattle.gaps.proofs.Rows.{pixel-row}

-- whether such a stem is gone, by its start, its original length l and its fitted width w
abbrev stem_gone : ℤ → ℤ → ℤ → Bool
stem_gone start l w = gone l (anchored_first start l w) (anchored_second start l w)

-- ---- a stem of a pixel and less has its centre on a row's
record OnCentre (t : ℤ) : Type 0 where
  row : ℤ
  is : t ≡ centre row

pixel-centre : (c : ℤ) → OnCentre (nearer_centre c (pos 32) (pos 32))
unfolding nearer_centre pix_round pix_floor
pixel-centre c =
    let s = shr_z (c +ℤ pos 32) 64 in
    either_way OnCentre (ltb (distance c (lower_centre c (pos 32))) (distance c (upper_centre c (pos 32)))) (lower_centre c (pos 32)) (upper_centre c (pos 32))
    (record {
      row = s -ℤ pos 1;
      is =
          same
          (omega (
            arith,
            signed,
            mul-up s 64,
            mul-dn s 64,
            mul-up (s -ℤ pos 1) 64,
            mul-dn (s -ℤ pos 1) 64,
            sub-law s (pos 1),
            sub-law (s *ℤ pos 64) (pos 32),
            add-law ((s -ℤ pos 1) *ℤ pos 64) (pos 32),
          ));
    })
    (record { row = s; is = refl })

on-centre : (c w : ℤ) → le_z w (pos 64) ≡ true → OnCentre (thin_centre c w)
unfolding thin_centre lower_offset upper_offset
on-centre c w h = rw h (pixel-centre c)

-- ---- so from a fitted width of 2 on it has a row
halves : (t w : ℤ) → pos 1 <ℤ w → ((t -ℤ quot_z w (pos 2)) ≤ℤ t) × (t <ℤ (t +ℤ quot_z w (pos 2)))
halves t w g =
    let q = quot_z w (pos 2) in
    (omega (arith, signed, g, one-zero w, sub-law t q, quot-up w 2, quot-dn w 2), omega (arith, signed, g, one-zero w, add-law t q, quot-up w 2, quot-dn w 2))

thin_row : (l t w : ℤ) → pos 1 <ℤ w → OnCentre t → gone l (t -ℤ quot_z w (pos 2)) (t +ℤ quot_z w (pos 2)) ≡ false
thin_row l t w g o =
    let q = quot_z w (pos 2) in
    let h = halves t w g in
    row_stays l (t -ℤ q) (t +ℤ q) o.row (record {
      not_below = subst (λ (z : ℤ). (t -ℤ q) ≤ℤ z) o.is h.0;
      below = subst (λ (z : ℤ). z <ℤ (t +ℤ q))
          o.is h.1;
    })

-- and one of more than a pixel has one wherever it is
broad-row : (l t w : ℤ) → le_z w (pos 64) ≡ false → gone l (t -ℤ quot_z w (pos 2)) (t +ℤ quot_z w (pos 2)) ≡ false
broad-row l t w h =
    let q = quot_z w (pos 2) in
    row_stays l (t -ℤ q) (t +ℤ q) _ (pixel-row (t -ℤ q) (t +ℤ q)
    (omega (arith, signed, h, one-zero w, sub-law (t +ℤ q) (t -ℤ q), sub-law t q, add-law t q, quot-up w 2, quot-dn w 2)))

wide_row : (l p w : ℤ) → lt_z w (pos 96) ≡ false → gone l p (p +ℤ w) ≡ false
wide_row l p w h = row_stays l p (p +ℤ w) _ (pixel-row p (p +ℤ w) (omega (arith, signed, h, sub-law (p +ℤ w) p, add-law p w)))

wide_is : (start l w : ℤ) → lt_z w (pos 96) ≡ false → stem_gone start l w ≡ gone l (wide_first start l w) (wide_first start l w +ℤ w)
unfolding anchored_first anchored_second
wide_is start l w h = rw h

-- a stem of a fitted width of 2 and more, beside an anchor and before the neighbour bound, is not lost
pub stem-kept : (start l w : ℤ) → pos 1 <ℤ w → stem_gone start l w ≡ false
stem-kept start l w g = by (lt_z w (pos 96)) refl (le_z w (pos 64)) refl
  where
    thin : lt_z w (pos 96) ≡ true → stem_gone start l w ≡ gone l (thin_centre (centre_of start l) w -ℤ quot_z w (pos 2))
        (thin_centre (centre_of start l) w +ℤ quot_z w (pos 2))
    thin h = by₂ (gone l) refl (first-thin start l w h) (second-thin start l w h)

    by : (t : Bool) → lt_z w (pos 96) ≡ t → (u : Bool) → le_z w (pos 64) ≡ u → stem_gone start l w ≡ false
    by true h true k = thin h ∙ thin_row l (thin_centre (centre_of start l) w) w g (on-centre (centre_of start l) w k)
    by true h false k = thin h ∙ broad-row l (thin_centre (centre_of start l) w) w k
    by false h u k = wide_is start l w h ∙ wide_row l (wide_first start l w) w h

-- and one of 1, whose halves drop their fraction, is: both its edges come to the centre
pub unit-lost : stem_gone (pos 0) (pos 1) (pos 1) ≡ true
unfolding gone rows row_from anchored_first anchored_second thin_first thin_second thin_centre nearer_centre lower_offset upper_offset centre_of pix_floor pix_round
unit-lost = refl
