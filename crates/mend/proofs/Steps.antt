-- One step along a ring.
use mathlib.Core.Path.{◌≡◌, refl, sym, ap, ◌∙◌}
use mathlib.Core.Bool.{Bool, true, false, cond, ◌&&◌}
use Prim.Native.Nat.{ℕ, zero, suc, ◌+◌, ◌-◌, ◌≤◌, ◌<◌}
use native.Mathlib.Omega.{arith}
use borrow.Author.Tests.{eq-eqb, ne_eqb, lt-ltb, le-ltb}
use lib.Dec.{eqb, ltb}
use Rattle.axis.proofs.Tests.{and-false}
use Rattle.mend.specs.Following.{closes}

module _ (own : ℕ → Bool) (next : ℕ → ℕ) (n first last : ℕ) where
  -- none is left
  pub step-none : (ix : ℕ) → closes own next n first last 0 ix ≡ false
  unfolding closes
  step-none ix = refl

  -- no segment
  pub step-out : (left ix : ℕ) → 0 < left → n ≤ ix → closes own next n first last left ix ≡ false
  unfolding closes
  step-out zero ix h g = absurd (omega arith)
  step-out (suc left) ix h g = rw (le-ltb ix n g)

  -- one of another edge
  pub step_other : (left ix : ℕ) → 0 < left → own ix ≡ false → closes own next n first last left ix ≡ false
  unfolding closes
  step_other zero ix h o = absurd (omega arith)
  step_other (suc left) ix h o = rw o (and-false (ltb ix n))

  -- the last, too early
  pub step-early : (left ix : ℕ) → 1 < left → own ix ≡ true → ix ≡ last → closes own next n first last left ix ≡ false
  unfolding closes
  step-early zero ix h o e = absurd (omega arith)
  step-early (suc left) ix h o e = rw (o, eq-eqb ix last e, ne_eqb left 0 (λ (z : left ≡ 0). omega arith)) (and-false (ltb ix n))

  -- the last
  pub step-last : (left ix : ℕ) → 0 < left → left ≤ 1 → ix < n → own ix ≡ true → ix ≡ last → closes own next n first last left ix ≡ eqb (next ix) first
  unfolding closes
  step-last zero ix h g b o e = absurd (omega arith)
  step-last (suc left) ix h g b o e = rw (lt-ltb ix n b, o, eq-eqb ix last e, eq-eqb left 0 (let z : left ≡ 0 = omega arith in z))

  -- another one
  pub step-on : (left ix : ℕ) → 0 < left → ix < n → own ix ≡ true → (ix ≡ last → ⊥)
      → closes own next n first last left ix ≡ closes own next n first last (left - 1) (next ix)
  unfolding closes
  step-on zero ix h b o e = absurd (omega arith)
  step-on (suc left) ix h b o e =
      rw (lt-ltb ix n b, o, ne_eqb ix last e) (ap (λ (k : ℕ). closes own next n first last k (next ix)) (let z : left ≡ suc left - 1 = omega arith in z))

-- an index as a place
pub from_place : (own : ℕ → Bool) (next : ℕ → ℕ) (n first last left ix at : ℕ) (r : Bool) → at ≡ ix → closes own next n first last left ix ≡ r
    → closes own next n first last left at ≡ r
from_place own next n first last left ix at r e h = ap (closes own next n first last left) e ∙ h

-- none left
pub at-end : (own : ℕ → Bool) (next : ℕ → ℕ) (n first last left ix : ℕ) (r : Bool) → left ≤ 0 → closes own next n first last left ix ≡ r → false ≡ r
at-end own next n first last left ix r h e =
    let z : left ≡ 0 = omega arith in sym (ap (λ (k : ℕ). closes own next n first last k ix) z ∙ step-none own next n first last ix) ∙ e
