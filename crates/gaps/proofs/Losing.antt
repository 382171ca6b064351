-- When a pair is gone: test by test as the code comes to it, and as facts.
use mathlib.Core.Path.{◌≡◌, refl, sym, ◌∙◌}
use mathlib.Core.Bool.{Bool, true, false, ◌&&◌}
use mathlib.Core.Logic.{inl, inr, ⊎_elim}
use native.Mathlib.Omega.{arith}
use lib.IntN.{ℤ, pos, ◌-ℤ◌}
use lib.Signed.{lt_z, le_z, ◌≤ℤ◌, ◌<ℤ◌}
use Rattle.signed.specs.Equality.{eq_z}
use Rattle.signed.proofs.Choices.{clash}
use Rattle.signed.proofs.Signed.{signed, sub-law, is-<ℤ, to-lt-true, to-lt-false, eq_z-yes, eq_z-true}
use Rattle.axis.proofs.Tests.{and-false}
use Rattle.gaps.specs.Gaps.{row_from, rows, RowBetween, gone, Gone}
use Rattle.gaps.proofs.Rows.{none_is, no_row, row-none, some-row}

and-true : (x : Bool) → (x && true) ≡ x
and-true true = refl
and-true false = refl

module _ (before p q : ℤ) where
  -- ---- test by test
  -- a width is below 0 where its second position is below the first
  width-turned : lt_z (q -ℤ p) (pos 0) ≡ lt_z q p
  width-turned = by (lt_z q p) refl
    where
      by : (t : Bool) → lt_z q p ≡ t → lt_z (q -ℤ p) (pos 0) ≡ t
      by true h = to-lt-true (q -ℤ p) (pos 0) (omega (arith, signed, h, sub-law q p))
      by false h = to-lt-false (q -ℤ p) (pos 0) (omega (arith, signed, h, sub-law q p))

  -- turned
  pub turned : lt_z q p ≡ true → true ≡ gone before p q
  unfolding gone
  turned t = let n : lt_z (q -ℤ p) (pos 0) ≡ true = width-turned ∙ t in rw n

  module _ (t : lt_z q p ≡ false) where
    not_turned : lt_z (q -ℤ p) (pos 0) ≡ false
    not_turned = width-turned ∙ t

    -- without a row or not, where it was open
    pub opened : lt_z (pos 0) before ≡ true → le_z (row_from q) (row_from p) ≡ gone before p q
    unfolding gone
    opened o = rw (not_turned, o, none_is p q) (sym (and-true (le_z (row_from q) (row_from p))))

    -- kept, where it was not
    pub kept : lt_z (pos 0) before ≡ false → false ≡ gone before p q
    unfolding gone
    kept o = rw (not_turned, o, and-false (eq_z (rows p q) (pos 0)))

  -- ---- as facts
  pub gone-is : gone before p q ≡ true → Gone before p q
  gone-is e = by (lt_z q p) refl (lt_z (pos 0) before) refl
    where
      by : (t : Bool) → lt_z q p ≡ t → (o : Bool) → lt_z (pos 0) before ≡ o → Gone before p q
      by true h o g = record { how = inl (is-<ℤ q p h) }
      by false h true g =
          let none = eq_z-true (rows p q) (pos 0) (none_is p q ∙ opened h g ∙ e) in record { how = inr (no_row p q none, is-<ℤ (pos 0) before g) }
      by false h false g = absurd (clash _ (sym (kept h g)) e)

  pub is-gone : Gone before p q → gone before p q ≡ true
  is-gone g = ⊎_elim (λ (h : q <ℤ p). sym (turned (to-lt-true q p (omega (arith, signed, h))))) blank g.how
    where
      blank : ((k : ℤ) → RowBetween p q k → ⊥) × (pos 0 <ℤ before) → gone before p q ≡ true
      blank h = by (lt_z q p) refl
        where
          by : (t : Bool) → lt_z q p ≡ t → gone before p q ≡ true
          by true t = sym (turned t)
          by false t =
              sym (opened t (to-lt-true (pos 0) before (omega (arith, signed, h.1)))) ∙ sym (none_is p q) ∙ eq_z-yes (rows p q) (pos 0) (row-none p q h.0)

-- a pair of no width at one place is not gone
pub self-kept : (p : ℤ) → gone (pos 0) p p ≡ false
self-kept p = sym (kept (pos 0) p p (to-lt-false p p (omega (arith, signed))) refl)

-- a pair that is not gone is not turned, and has a row where it was open
module _ (before p q : ℤ) (k : gone before p q ≡ false) where
  pub kept-order : p ≤ℤ q
  kept-order = by (lt_z q p) refl
    where
      by : (t : Bool) → lt_z q p ≡ t → p ≤ℤ q
      by true t = absurd (clash _ k (sym (turned before p q t)))
      by false t = omega (arith, signed, t)

  pub kept_row : pos 0 <ℤ before → RowBetween p q (row_from p)
  kept_row o =
      some-row p q (opened before p q (let h = kept-order in to-lt-false q p (omega (arith, signed, h)))
      (to-lt-true (pos 0) before (omega (arith, signed, o))) ∙ k)

-- and one with a row is not gone
pub row_stays : (before p q k : ℤ) → RowBetween p q k → gone before p q ≡ false
row_stays before p q k r = by (gone before p q) refl
  where
    by : (t : Bool) → gone before p q ≡ t → t ≡ false
    by true e =
        let x = r.not_below in
        let y = r.below in
        absurd (⊎_elim (λ (h : q <ℤ p). omega (arith, signed, h, x, y)) (λ h. h.0 k r) (gone-is before p q e).how)
    by false e = refl
