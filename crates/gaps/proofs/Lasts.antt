-- The last number below another that passes a test: where the pair that an edge ends starts.
use Rattle.std.specs.Prelude.{None, Some}
use mathlib.Core.Path.{◌≡◌, refl, sym}
use mathlib.Core.Bool.{Bool, true, false, cond}
use mathlib.Core.Logic.{⊎_elim}
use Prim.Native.Nat.{ℕ, zero, suc, ◌+◌, ◌≤◌, ◌<◌}
use native.Mathlib.Nat.{eq-or-lt_of_le}
use native.Mathlib.Numerals.{add-one}
use native.Mathlib.Omega.{arith}
use Rattle.signed.proofs.Choices.{clash}
use Rattle.signed.proofs.Signed.{lt-or-le}
use Rattle.axis.specs.Link.{Link}
use Rattle.gaps.specs.Gaps.{last_of}

module _ (p : ℕ → Bool) where
  -- ---- one number more
  pub last-skip : (n : ℕ) → p n ≡ false → last_of p (n + 1) ≡ last_of p n
  unfolding last_of
  last-skip n h = rw (add-one, h)

  pub last_step : (n : ℕ) → p n ≡ true → last_of p (n + 1) ≡ Some n
  unfolding last_of
  last_step n h = rw (add-one, h)

  -- ---- what it is
  -- i passes, and none behind it below n
  pub record IsLast (n i : ℕ) : Type 0 where
    pub order : i < n
    pub passes : p i ≡ true
    pub between : (k : ℕ) → i < k → k < n → p k ≡ false

  -- what l is: the last of n numbers
  pub record Last (n : ℕ) (l : Link) : Type 0 where
    pub none : l ≡ None → (k : ℕ) → k < n → p k ≡ false
    pub some : (i : ℕ) → l ≡ Some i → IsLast n i

  no-link : {k : ℕ} → Some k ≡ None → ⊥
  no-link e = let z : ◌≡◌ {A = ℕ} 0 1 = cc in omega arith

  pub last_is : (n : ℕ) → Last n (last_of p n)
  unfolding last_of
  last_is zero = record { none = λ e k h. absurd (omega arith); some = λ i e. absurd (no-link (sym e)) }
  last_is (suc n) = by (p n) refl (last_is n)
    where
      by : (t : Bool) → p n ≡ t → Last n (last_of p n) → Last (suc n) (cond t (Some n) (last_of p n))
      by true q b = record {
        none = λ e. absurd (no-link e);
        some =
            λ (i : ℕ) (e : Some n ≡ Some i). let w : n ≡ i = cc in rw (sym w)
            (record { order = omega arith; passes = q; between = λ k g h. absurd (omega arith) });
      }
      by false q b = record {
        none = λ e k h. ⊎_elim (λ (w : k ≡ n). rw w q) (λ (g : k < n). b.none e k g) (eq-or-lt_of_le (omega arith));
        some = λ i e.
            let s = b.some i e in
            record {
              order = omega (arith, s.order);
              passes = s.passes;
              between = λ k g h. ⊎_elim (λ (w : k ≡ n). rw w q) (λ (l : k < n). s.between k g l) (eq-or-lt_of_le (omega arith));
            };
      }

  -- it is no other
  pub is_last : (n i : ℕ) → IsLast n i → last_of p n ≡ Some i
  is_last n i d = by (last_of p n) (last_is n)
    where
      by : (l : Link) → Last n l → l ≡ Some i
      by None b = absurd (clash _ (b.none refl i d.order) d.passes)
      by (Some k) b =
          let s = b.some k refl in
          ⊎_elim
          (λ (h : k < i). absurd (clash _ (s.between i h d.order) d.passes))
          (λ (h : i ≤ k).
          ⊎_elim
          (λ (e : i ≡ k). λ x. Some (sym e x))
          (λ (g : i < k). absurd (clash _ (d.between k g s.order) s.passes))
          (eq-or-lt_of_le h))
          (lt-or-le k i)
