-- An element added to a list settles in a place, and those from there on move up.
use mathlib.Core.Path.{◌≡◌, refl, sym, ap, ◌∙◌}
use mathlib.Core.Bool.{Bool, true, false, cond}
use mathlib.Core.List.{List, map}
use Prim.Native.Nat.{ℕ, zero, suc, ◌-◌, ◌≤◌, ◌<◌}
use native.Mathlib.Numerals.{sub-one}
use native.Mathlib.Omega.{arith}
use borrow.Author.Tests.{lt-ltb, le-ltb}
use lib.Dec.{ltb}
use lib.ListN.{get_or, set, get_or-map}
use lib.Seq.{get_or-set_other}
use Rattle.signed.proofs.Choices.{cond_cases, cond_map}
use Rattle.build_join.specs.Joining.{settle}
use Rattle.build_join.proofs.Settling.{map-set}
use Rattle.build_join_words.specs.Lists.{stop_at, insert_at}

-- ---- where it stops
module _ {A : Type 0} (st : A → Bool) (d : A) where
  pub stop-end : (xs : List A) (i : ℕ) → i ≡ 0 → stop_at st d xs i ≡ 0
  unfolding stop_at
  stop-end xs i h = rw h

  pub stop-here : (xs : List A) (i : ℕ) → 0 < i → st (get_or xs (i - 1) d) ≡ true → stop_at st d xs i ≡ i
  unfolding stop_at
  stop-here xs zero h s = absurd (omega arith)
  stop-here xs (suc i) h s = let s' = rw sub-one at s in rw s'

  pub stop-on : (xs : List A) (i : ℕ) → 0 < i → st (get_or xs (i - 1) d) ≡ false → stop_at st d xs (i - 1) ≡ stop_at st d xs i
  unfolding stop_at
  stop-on xs zero h s = absurd (omega arith)
  stop-on xs (suc i) h s = let s' = rw sub-one at s in rw (sub-one, s')

  -- within the places that are asked
  stop-low : (xs : List A) (i : ℕ) → stop_at st d xs i ≤ i
  unfolding stop_at
  stop-low xs zero = omega arith
  stop-low xs (suc i) = cond_cases (λ (k : ℕ). k ≤ suc i) (st (get_or xs i d)) _ _ (λ e. omega arith) (λ e. omega (arith, stop-low xs i))

  -- a place behind them does not matter
  stop-set : (xs : List A) (k : ℕ) (v : A) (i : ℕ) → i ≤ k → stop_at st d (set xs k v) i ≡ stop_at st d xs i
  unfolding stop_at
  stop-set xs k v zero h = refl
  stop-set xs k v (suc i) h = rw (get_or-set_other xs k i v d (λ (e : i ≡ k). omega arith), stop-set xs k v i (omega arith))

-- two lists whose elements stop alike
pub stop-alike : {A B : Type 0} (st : A → Bool) (sb : B → Bool) (d : A) (e : B) (xs : List A) (ys : List B) (n : ℕ)
    → ((j : ℕ) → j < n → st (get_or xs j d) ≡ sb (get_or ys j e))
    → stop_at st d xs n ≡ stop_at sb e ys n
unfolding stop_at
stop-alike st sb d e xs ys zero h = refl
stop-alike st sb d e xs ys (suc n) h = rw (h n (omega arith), stop-alike st sb d e xs ys n (λ j l. h j (omega arith)))

-- ---- putting it there
module _ {A : Type 0} (d x : A) where
  insert-step : (xs : List A) (at i : ℕ) → at < suc i → insert_at d x xs at (suc i) ≡ insert_at d x (set xs (suc i) (get_or xs i d)) at i
  unfolding insert_at
  insert-step xs at i h = rw (lt-ltb at (suc i) h)

  pub insert-on : (xs : List A) (at i : ℕ) (v : A) → at < i → v ≡ get_or xs (i - 1) d → insert_at d x (set xs i v) at (i - 1) ≡ insert_at d x xs at i
  insert-on xs at zero v h e = absurd (omega arith)
  insert-on xs at (suc i) v h e = let e' = rw sub-one at e in rw (sub-one, e') (sym (insert-step xs at i h))

  pub insert-end : (xs : List A) (at i : ℕ) → i ≤ at → insert_at d x xs at i ≡ set xs i x
  unfolding insert_at
  insert-end xs at zero h = refl
  insert-end xs at (suc i) h = rw (le-ltb at (suc i) h)

  -- settling is stopping, and being put there
  pub settle-insert : (st : A → Bool) (xs : List A) (i : ℕ) → settle st d x xs i ≡ insert_at d x xs (stop_at st d xs i) i
  unfolding settle stop_at
  settle-insert st xs zero = sym (insert-end xs 0 0 (omega arith))
  settle-insert st xs (suc i) = go (st (get_or xs i d)) (settle-insert st (set xs (suc i) (get_or xs i d)) i)
    where
      more : List A
      more = set xs (suc i) (get_or xs i d)

      go : (b : Bool) → settle st d x more i ≡ insert_at d x more (stop_at st d more i) i
          → cond b (set xs (suc i) x) (settle st d x more i) ≡ insert_at d x xs (cond b (suc i) (stop_at st d xs i)) (suc i)
      go true e = sym (insert-end xs (suc i) (suc i) (omega arith))
      go false e =
          e ∙ ap (λ (k : ℕ). insert_at d x more k i) (stop-set st d xs (suc i) (get_or xs i d) i (omega arith))
          ∙ sym (insert-step xs (stop_at st d xs i) i (omega (arith, stop-low st d xs i)))

-- what is shown of a list takes it as the list does
pub insert-map : {A B : Type 0} (f : A → B) (d x : A) (xs : List A) (at i : ℕ) → map f (insert_at d x xs at i) ≡ insert_at (f d) (f x) (map f xs) at i
unfolding insert_at
insert-map f d x xs at zero = map-set f xs 0 x
insert-map {A} {B} f d x xs at (suc i) =
    let e : get_or (map f xs) i (f d) ≡ f (get_or xs i d) = get_or-map f xs i d in
    rw e
    (cond_map (map f) (ltb at (suc i)) _ _ _ _
    (insert-map f d x (set xs (suc i) (get_or xs i d)) at i ∙ ap (λ (l : List B). insert_at (f d) (f x) l at i) (map-set f xs (suc i) (get_or xs i d)))
    (map-set f xs (suc i) x))
