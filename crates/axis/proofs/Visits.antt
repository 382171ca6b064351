-- The visits of a pass, one after the other, over any state and any visit.
use mathlib.Core.Path.{◌≡◌, refl, sym, ap, ◌∙◌}
use Prim.Native.Nat.{ℕ, zero, suc, ◌+◌, ◌-◌, ◌<◌, ◌≤◌}
use native.Mathlib.Omega.{arith}
use Rattle.axis.specs.Visits.{visits}

visits-next : {S : Type 0} (f : S → ℕ → S) (n i : ℕ) (s : S) → i < n → visits f (n - i) i s ≡ visits f (n - (i + 1)) (i + 1) (f s i)
unfolding visits
visits-next f n i s h = go (n - i) (n - (i + 1)) (omega arith)
  where
    go : (a b : ℕ) → a ≡ suc b → visits f a i s ≡ visits f b (i + 1) (f s i)
    go a b e = rw e

-- none is left
pub visits-end : {S : Type 0} (f : S → ℕ → S) (n i : ℕ) (s : S) → n ≤ i → visits f (n - i) i s ≡ s
unfolding visits
visits-end f n i s h = let e : n - i ≡ 0 = omega arith in rw e

-- one turn of a loop whose invariant says that what is left to do gives the whole pass's result
pub turn : {S : Type 0} (f : S → ℕ → S) (n i : ℕ) (s s' x : S) → i < n → f s i ≡ s' → visits f (n - i) i s ≡ x → visits f (n - (i + 1)) (i + 1) s' ≡ x
turn f n i s s' x h e p = ap (visits f (n - (i + 1)) (i + 1)) (sym e) ∙ sym (visits-next f n i s h) ∙ p

-- two visits that are the same make the same pass
pub visits-same : {S : Type 0} (f g : S → ℕ → S) → ((s : S) (i : ℕ) → f s i ≡ g s i) → (n i : ℕ) (s : S) → visits f n i s ≡ visits g n i s
unfolding visits
visits-same f g h zero i s = refl
visits-same f g h (suc n) i s = ap (visits f n (i + 1)) (h s i) ∙ visits-same f g h n (i + 1) (g s i)

-- what each visit of the first n places keeps, the pass keeps
pub visits-keep : {S : Type 0} (P : S → Type 0) (f : S → ℕ → S) (n : ℕ) → ((s : S) (i : ℕ) → i < n → P s → P (f s i))
    → (m i : ℕ) (s : S) → i + m ≤ n → P s → P (visits f m i s)
unfolding visits
visits-keep P f n h zero i s l p = p
visits-keep P f n h (suc m) i s l p = visits-keep P f n h m (i + 1) (f s i) (omega arith) (h s i (omega arith) p)
