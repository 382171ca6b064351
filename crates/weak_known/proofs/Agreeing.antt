-- What the place of a point reads of the currents: its references' alone, or its own where nothing moves.
use mathlib.Core.Path.{◌≡◌, refl}
use mathlib.Core.Bool.{Bool, true, false}
use mathlib.Core.List.{List}
use mathlib.Core.Logic.{◌⊎◌, inl, inr}
use mathlib.Core.Option.{Option, some, none}
use Prim.Native.Nat.{ℕ}
use lib.Dec.{eqb}
use lib.IntN.{ℤ}
use lib.Signed.{lt_z}
use Rattle.signed.specs.Equality.{eq_z}
use Rattle.weak_contour.specs.Contour.{at, References, first_of, second_of, between_at, shifted_at, followed, steep_by, steep_followed}

-- ---- the currents c and d agree at the references
abbrev pub AgreeAt : List ℤ → List ℤ → Option References → Type 0
AgreeAt c d r = (x : References) → r ≡ some x → (at d x.before ≡ at c x.before) × (at d x.behind ≡ at c x.behind)

module _ (o c d : List ℤ) (i : ℕ) where
  -- two references: nothing else is read
  pub between-reads : (r : References) → at d r.before ≡ at c r.before → at d r.behind ≡ at c r.behind → between_at o d r i ≡ between_at o c r i
  unfolding between_at first_of second_of
  between-reads r p q = by (lt_z (at o r.behind) (at o r.before)) refl
    where
      by : (b : Bool) → lt_z (at o r.behind) (at o r.before) ≡ b → between_at o d r i ≡ between_at o c r i
      by true e = rw (e, p, q)
      by false e = rw (e, p, q)

  -- nor for whether it is too steep
  pub steep-reads : (r : References) → at d r.before ≡ at c r.before → at d r.behind ≡ at c r.behind → steep_by o d r i ≡ steep_by o c r i
  unfolding steep_by first_of second_of
  steep-reads r p q = by (lt_z (at o r.behind) (at o r.before)) refl
    where
      by : (b : Bool) → lt_z (at o r.behind) (at o r.before) ≡ b → steep_by o d r i ≡ steep_by o c r i
      by true e = rw (e, p, q)
      by false e = rw (e, p, q)

  pub steep-same : (r : Option References) → AgreeAt c d r → steep_followed o d r i ≡ steep_followed o c r i
  unfolding steep_followed
  steep-same none a = refl
  steep-same (some r) a = steep-reads r (a r refl).0 (a r refl).1

  -- one reference: where it did not move, the point's own current is read. A point whose current is as it was, or is already where it comes to, comes to the
  -- same place
  pub shifted-same : (p : ℕ) → at d p ≡ at c p → (at d i ≡ at c i) ⊎ (at d i ≡ shifted_at o c p i) → shifted_at o d p i ≡ shifted_at o c p i
  unfolding shifted_at
  shifted-same p e w = by (eq_z (at c p) (at o p)) refl w
    where
      by : (b : Bool) → eq_z (at c p) (at o p) ≡ b → (at d i ≡ at c i) ⊎ (at d i ≡ shifted_at o c p i) → shifted_at o d p i ≡ shifted_at o c p i
      by true m (inl q) = rw (e, m) q
      by true m (inr q) = rw (e, m) (rw m at q)
      by false m x = rw (e, m)

  pub followed_same : (r : Option References) → AgreeAt c d r → (at d i ≡ at c i) ⊎ (at d i ≡ followed o c r i) → followed o d r i ≡ followed o c r i
  unfolding followed
  followed_same none a (inl q) = q
  followed_same none a (inr q) = q
  followed_same (some r) a w = by (eqb r.before r.behind) refl w
    where
      by : (b : Bool) → eqb r.before r.behind ≡ b → (at d i ≡ at c i) ⊎ (at d i ≡ followed o c (some r) i)
          → followed o d (some r) i ≡ followed o c (some r) i
      by true e (inl q) = rw e (shifted-same r.before (a r refl).0 (inl q))
      by true e (inr q) = rw e (shifted-same r.before (a r refl).0 (inr (rw e at q)))
      by false e x = rw e (between-reads r (a r refl).0 (a r refl).1)
