-- Walks that end: what they meet, and that they meet nothing twice.
use mathlib.Core.Path.{◌≡◌, refl, sym, ap, subst, ◌∙◌}
use mathlib.Core.Bool.{Bool, true, false, cond, ◌&&◌}
use mathlib.Core.List.{List, [], ◌∷◌}
use mathlib.Core.Logic.{◌⊎◌, inl, inr, ⊎_elim}
use Prim.Native.Nat.{ℕ, zero, suc, ◌+◌, ◌≤◌, ◌<◌}
use native.Mathlib.Omega.{arith}
use borrow.Author.Tests.{eqb-true, eqb-false, eq-eqb, ne_eqb, ltb-true}
use lib.Dec.{eqb, ltb}
use lib.ListN.{length}
use Rattle.signed.proofs.Signed.{lt-or-le}
use Rattle.refusals.proofs.Tests.{and_first, and_second}
use Rattle.axis.specs.Ring.{walk, ends, times}
use Rattle.axis.proofs.Rings.{walk_at, Passes, walk-passes, shorter}

-- two numbers are the same or not
pub same? : (a b : ℕ) → (a ≡ b) ⊎ (a ≡ b → ⊥)
same? a b = by (eqb a b) refl
  where
    by : (t : Bool) → eqb a b ≡ t → (a ≡ b) ⊎ (a ≡ b → ⊥)
    by true e = inl (eqb-true a b e)
    by false e = inr (eqb-false a b e)

-- ---- what is met
pub times-nil : (i : ℕ) → times i [] ≡ 0
unfolding times
times-nil i = refl

pub times-here : (i x : ℕ) (ms : List ℕ) → i ≡ x → times i (x ∷ ms) ≡ 1 + times i ms
unfolding times
times-here i x ms e = rw (eq-eqb i x e)

pub times-there : (i x : ℕ) (ms : List ℕ) → (i ≡ x → ⊥) → times i (x ∷ ms) ≡ times i ms
unfolding times
times-there i x ms e = rw (ne_eqb i x e) (omega arith)

-- what is met is the head, or met behind it
pub met : (i x : ℕ) (ms : List ℕ) → 0 < times i (x ∷ ms) → (i ≡ x) ⊎ (0 < times i ms)
met i x ms h = ⊎_elim (λ (e : i ≡ x). inl e) (λ (e : i ≡ x → ⊥). inr (omega (arith, times-there i x ms e))) (same? i x)

pub met-behind : (i x : ℕ) (ms : List ℕ) → 0 < times i ms → 0 < times i (x ∷ ms)
met-behind i x ms h = ⊎_elim (λ (e : i ≡ x). omega (arith, times-here i x ms e)) (λ (e : i ≡ x → ⊥). omega (arith, times-there i x ms e)) (same? i x)

pub met-one : (i x : ℕ) → 0 < times i (x ∷ []) → i ≡ x
met-one i x h = ⊎_elim (λ (e : i ≡ x). e) (λ (g : 0 < times i []). absurd (omega (arith, times-nil i))) (met i x [] h)

-- ---- nothing twice
pub walk-some : (next : ℕ → ℕ) (last n x : ℕ) → 1 ≤ length (walk next last n x)
unfolding walk
walk-some next last zero x = omega arith
walk-some next last (suc n) x = by (eqb x last)
  where
    by : (b : Bool) → 1 ≤ length (cond b (x ∷ []) (x ∷ walk next last n (next x)))
    by true = omega arith
    by false = omega arith

module _ (next : ℕ → ℕ) (most last n : ℕ) where
  -- from what is met the walk is no longer
  met-shorter : (fuel x i : ℕ) → length (walk next last n x) ≤ fuel → ends next most last n x ≡ true → 0 < times i (walk next last n x)
      → length (walk next last n i) ≤ length (walk next last n x)
  met-shorter zero x i h e g = absurd (omega (arith, walk-some next last n x))
  met-shorter (suc fuel) x i h e g =
      ⊎_elim
      (λ (q : x ≡ last).
      let r : i ≡ x = met-one i x (subst (λ (l : List ℕ). 0 < times i l) (walk_at next last n x q) g) in
      omega (arith, ap (λ (k : ℕ). length (walk next last n k)) r))
      (λ (q : x ≡ last → ⊥).
      let p = walk-passes next most last n x q e in
      let s = shorter next most last n x p in
      ⊎_elim
      (λ (r : i ≡ x). omega (arith, ap (λ (k : ℕ). length (walk next last n k)) r))
      (λ (r : 0 < times i (walk next last n (next x))). omega (arith, met-shorter fuel (next x) i (omega arith) p.on r))
      (met i x (walk next last n (next x)) (subst (λ (l : List ℕ). 0 < times i l) p.step g)))
      (same? x last)

  -- so the head is not met again
  head-once : (x : ℕ) (p : Passes next most last n x) → times x (walk next last n (next x)) ≡ 0
  head-once x p =
      ⊎_elim
      (λ (r : 0 < times x (walk next last n (next x))).
      absurd (omega (arith, met-shorter (length (walk next last n (next x))) (next x) x (omega arith) p.on r, shorter next most last n x p)))
      (λ (r : times x (walk next last n (next x)) ≤ 0). omega arith)
      (lt-or-le 0 (times x (walk next last n (next x))))

  -- nor anything else
  once_by : (fuel x i : ℕ) → length (walk next last n x) ≤ fuel → ends next most last n x ≡ true → times i (walk next last n x) ≤ 1
  once_by zero x i h e = absurd (omega (arith, walk-some next last n x))
  once_by (suc fuel) x i h e =
      ⊎_elim
      (λ (q : x ≡ last). subst (λ (l : List ℕ). times i l ≤ 1) (sym (walk_at next last n x q)) (single (same? i x)))
      (λ (q : x ≡ last → ⊥).
      let p = walk-passes next most last n x q e in
      subst (λ (l : List ℕ). times i l ≤ 1) (sym p.step)
      (⊎_elim
      (λ (r : i ≡ x).
      omega (arith, times-here i x (walk next last n (next x)) r, ap (λ (k : ℕ). times k (walk next last n (next x))) r, head-once x p))
      (λ (r : i ≡ x → ⊥).
      omega (arith, times-there i x (walk next last n (next x)) r, once_by fuel (next x) i (omega (arith, shorter next most last n x p)) p.on))
      (same? i x)))
      (same? x last)
    where
      single : (i ≡ x) ⊎ (i ≡ x → ⊥) → times i (x ∷ []) ≤ 1
      single (inl r) = omega (arith, times-here i x [] r, times-nil i)
      single (inr r) = omega (arith, times-there i x [] r, times-nil i)

  -- a walk that ends meets each number once at most
  pub once : (x i : ℕ) → ends next most last n x ≡ true → times i (walk next last n x) ≤ 1
  once x i e = once_by (length (walk next last n x)) x i (omega arith) e

-- and leads over numbers below most alone
pub met-below : (next : ℕ → ℕ) (most last n x i : ℕ) → x < most → ends next most last n x ≡ true → 0 < times i (walk next last n x) → i < most
unfolding walk ends
met-below next most last zero x i h e g = let q = met-one i x g in omega arith
met-below next most last (suc n) x i h e g = by (λ l q r. met-below next most last n (next x) i l q r) (eqb x last) e g
  where
    by :
        (next x < most → ends next most last n (next x) ≡ true → 0 < times i (walk next last n (next x)) → i < most)
        → (b : Bool) → cond b true (ltb (next x) most && ends next most last n (next x)) ≡ true
        → 0 < times i (cond b (x ∷ []) (x ∷ walk next last n (next x))) → i < most
    by rest true e g = let q = met-one i x g in omega arith
    by rest false e g =
        ⊎_elim
        (λ (q : i ≡ x). omega arith)
        (λ (r : 0 < times i (walk next last n (next x))). rest (ltb-true (next x) most (and_first _ _ e)) (and_second (ltb (next x) most) _ e) r)
        (met i x (walk next last n (next x)) g)
