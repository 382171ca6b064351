-- The numbers of a set in rising order: the place of each is how many are below it.
use mathlib.Core.Path.{◌≡◌, refl, sym, ap, ◌∙◌}
use mathlib.Core.Bool.{Bool, true, false, cond}
use mathlib.Core.List.{List, [], ◌∷◌, ◌++◌, map}
use mathlib.Core.Logic.{◌⊎◌, ⊎_elim}
use Prim.Native.Nat.{ℕ, zero, suc, ◌+◌, ◌<◌}
use native.Mathlib.Nat.{eq-or-lt_of_le}
use native.Mathlib.Omega.{arith}
use lib.ListN.{length, get_or, length-append, get_or-append}
use lib.Seq.{get_or_at}
use Rattle.mend.specs.Following.{total, count}
use Rattle.pack.specs.Sets.{chosen}
use Rattle.pack.proofs.Counts.{count-rises}

-- ---- lists of which each element is made of another
pub map_at : {A B : Type 0} (f : A → B) (l : List A) (i : ℕ) (d : B) (e : A) → i < length l → get_or (map f l) i d ≡ f (get_or l i e)
map_at f [] i d e h = absurd (omega arith)
map_at f (x ∷ l) zero d e h = refl
map_at f (x ∷ l) (suc i) d e h = map_at f l i d e (omega arith)

-- ---- one number more, or the same ones
module _ (s : ℕ → Bool) where
  chosen-in : (n : ℕ) → s n ≡ true → chosen s (suc n) ≡ chosen s n ++ (n ∷ [])
  unfolding chosen
  chosen-in n e = rw e

  chosen-out : (n : ℕ) → s n ≡ false → chosen s (suc n) ≡ chosen s n ++ []
  unfolding chosen
  chosen-out n e = rw e

  count_in : (n : ℕ) → s n ≡ true → count s (suc n) ≡ count s n + 1
  unfolding total
  count_in n e = rw e

  count-out : (n : ℕ) → s n ≡ false → count s (suc n) ≡ count s n
  unfolding total
  count-out n e = rw e (omega arith)

  pub chosen-length : (n : ℕ) → length (chosen s n) ≡ count s n
  unfolding chosen total
  chosen-length zero = refl
  chosen-length (suc n) = go (s n) (chosen-length n)
    where
      go : (b : Bool) → length (chosen s n) ≡ count s n → length (chosen s n ++ cond b (n ∷ []) []) ≡ count s n + cond b 1 0
      go true h = length-append (chosen s n) (n ∷ []) ∙ omega arith
      go false h = length-append (chosen s n) [] ∙ omega arith

  -- the place of a number of the set
  pub chosen_at : (n k d : ℕ) → k < n → s k ≡ true → get_or (chosen s n) (count s k) d ≡ k
  unfolding chosen
  chosen_at zero k d h e = absurd (omega arith)
  chosen_at (suc n) k d h e =
      ⊎_elim
      (λ (q : k ≡ n).
      let x : s n ≡ true = sym (ap s q) ∙ e in
      ap (λ (l : List ℕ). get_or l (count s k) d) (chosen-in n x)
      ∙ get_or_at (chosen s n) n [] d (count s k) (chosen-length n ∙ ap (count s) (sym q))
      ∙ sym q)
      (λ (l : k < n).
      get_or-append (chosen s n) (cond (s n) (n ∷ []) []) d (count s k) (omega (arith, chosen-length n, count-rises s k n e l))
      ∙ chosen_at n k d l e)
      (eq-or-lt_of_le (omega arith))

-- every place has a number of the set, whose place it is
pub record Chosen (s : ℕ → Bool) (n p : ℕ) : Type 0 where
  pub it : ℕ
  pub below : it < n
  pub mine : s it ≡ true
  pub place : count s it ≡ p

pub chosen_is : (s : ℕ → Bool) (n p : ℕ) → p < count s n → Chosen s n p
unfolding total
chosen_is s zero p h = absurd (omega arith)
chosen_is s (suc n) p h = go (s n) refl h (chosen_is s n p)
  where
    go : (b : Bool) → s n ≡ b → p < count s n + cond b 1 0 → (p < count s n → Chosen s n p) → Chosen s (suc n) p
    go true e h old =
        ⊎_elim
        (λ (q : p ≡ count s n). record { it = n; below = omega arith; mine = e; place = sym q })
        (λ (l : p < count s n).
        let w = old l in
        record { it = w.it; below = omega (arith, w.below); mine = w.mine; place = w.place })
        (eq-or-lt_of_le (omega arith))
    go false e h old =
        let w = old (omega arith) in
        record { it = w.it; below = omega (arith, w.below); mine = w.mine; place = w.place }
