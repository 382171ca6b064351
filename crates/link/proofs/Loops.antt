-- Laws of the iterations: one turn, the end, and what each turn keeps.
use mathlib.Core.Path.{◌≡◌, refl, sym, ap, ◌∙◌}
use mathlib.Core.Bool.{Bool, true, false, cond}
use Prim.Native.Nat.{ℕ, zero, suc, ◌+◌, ◌-◌, ◌<◌, ◌≤◌}
use native.Mathlib.Nat.{sub-zero}
use native.Mathlib.Numerals.{add-one}
use native.Mathlib.Omega.{arith}
use Rattle.signed.proofs.Choices.{either_way}
use Rattle.link.specs.Loops.{turns, till}

-- ---- turns
pub none : {S : Type 0} (f : ℕ → S → S) (s : S) → s ≡ turns f 0 s
unfolding turns
none f s = refl

next : {S : Type 0} (f : ℕ → S → S) (i : ℕ) (s : S) → f i (turns f i s) ≡ turns f (i + 1) s
unfolding turns
next f i s = rw add-one

-- one turn of a loop
pub turn : {S : Type 0} (f : ℕ → S → S) (i : ℕ) (s u v : S) → u ≡ turns f i s → v ≡ f i u → v ≡ turns f (i + 1) s
turn f i s u v p q = q ∙ ap (f i) p ∙ next f i s

-- its end
pub end : {S : Type 0} (f : ℕ → S → S) (i n : ℕ) (s u : S) → i ≤ n → n ≤ i → u ≡ turns f i s → u ≡ turns f n s
end f i n s u h g p = let e : i ≡ n = omega arith in rw e at p

-- what each turn below n keeps, the turns below m keep
pub keeps : {S : Type 0} (P : S → Type 0) (f : ℕ → S → S) (n m : ℕ) (s : S) → ((i : ℕ) (s : S) → i < n → P s → P (f i s)) → m ≤ n → P s → P (turns f m s)
unfolding turns
keeps P f n zero s h l p = p
keeps P f n (suc m) s h l p = h m (turns f m s) (omega arith) (keeps P f n m s h (omega arith) p)

-- ---- turns of which one may be the last
module _ {S : Type 0} (last : ℕ → S → Bool) (f : ℕ → S → S) where
  pub till-keeps : (P : S → Type 0) (n m i : ℕ) (s : S) → ((i : ℕ) (s : S) → i < n → P s → P (f i s)) → i + m ≤ n → P s → P (till last f m i s)
  unfolding till
  till-keeps P n zero i s h l p = p
  till-keeps P n (suc m) i s h l p =
      let q = h i s (omega arith) p in
      either_way P (last i s) (f i s) (till last f m (i + 1) (f i s)) q (till-keeps P n m (i + 1) (f i s) h (omega arith) q)

  till-step : (m k i : ℕ) (s : S) → m ≡ suc k → till last f m i s ≡ cond (last i s) (f i s) (till last f k (i + 1) (f i s))
  unfolding till
  till-step m k i s e = rw e

  pub till-start : (n : ℕ) (s : S) → till last f (n - 0) 0 s ≡ till last f n 0 s
  till-start n s = rw sub-zero

  -- what is left of the turns at i gives x: a turn that is not the last hands over to the rest
  pub till-on : (n i : ℕ) (s u x : S) → i < n → last i s ≡ false → u ≡ f i s → till last f (n - i) i s ≡ x → till last f (n - (i + 1)) (i + 1) u ≡ x
  till-on n i s u x h l e p =
      let q : till last f (n - i) i s ≡ cond (last i s) (f i s) (till last f (n - (i + 1)) (i + 1) (f i s)) = till-step (n - i) (n - (i + 1)) i s
      (omega arith) in
      rw e (sym (rw l at q) ∙ p)

  -- the last turn gives it
  pub till-last : (n i : ℕ) (s u x : S) → i < n → last i s ≡ true → u ≡ f i s → till last f (n - i) i s ≡ x → u ≡ x
  till-last n i s u x h l e p =
      let q : till last f (n - i) i s ≡ cond (last i s) (f i s) (till last f (n - (i + 1)) (i + 1) (f i s)) = till-step (n - i) (n - (i + 1)) i s
      (omega arith) in
      e ∙ sym (rw l at q) ∙ p

  -- and so does the end
  pub till-end : (n i : ℕ) (s x : S) → n ≤ i → till last f (n - i) i s ≡ x → s ≡ x
  unfolding till
  till-end n i s x h p = let e : n - i ≡ 0 = omega arith in rw e at p
