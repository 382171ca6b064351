-- Choices by a test, and places of a list, over any elements.
use mathlib.Core.Path.{◌≡◌, refl}
use mathlib.Core.Bool.{Bool, true, false, cond}
use mathlib.Core.List.{List, [], ◌∷◌}
use Prim.Native.Nat.{ℕ, zero, suc}
use native.Mathlib.Omega.{arith}
use lib.ListN.{get_or, set}

-- ---- choices
-- which one is chosen
pub cond-true : {A : Type 0} (t : Bool) (a b : A) → t ≡ true → cond t a b ≡ a
cond-true t a b e = rw e

pub cond-false : {A : Type 0} (t : Bool) (a b : A) → t ≡ false → cond t a b ≡ b
cond-false t a b e = rw e

-- what each has where it is chosen, the chosen one has
pub cond_cases : {A : Type 0} (P : A → Type 0) (t : Bool) (a b : A) → (t ≡ true → P a) → (t ≡ false → P b) → P (cond t a b)
cond_cases P true a b p q = p refl
cond_cases P false a b p q = q refl

-- what both have, the chosen one has
pub either_way : {A : Type 0} (P : A → Type 0) (t : Bool) (a b : A) → P a → P b → P (cond t a b)
either_way P true a b p q = p
either_way P false a b p q = q

-- two choices by the same test
pub cond_map : {A B : Type 0} (f : A → B) (t : Bool) (a b : A) (x y : B) → f a ≡ x → f b ≡ y → f (cond t a b) ≡ cond t x y
cond_map f true a b x y p q = p
cond_map f false a b x y p q = q

-- no test both holds and fails
pub clash : (t : Bool) → t ≡ false → t ≡ true → ⊥
clash t p q = let z : ◌≡◌ {A = ℕ} 0 1 = cc in omega arith

-- ---- places
-- what holds of an element and of what is stored holds of the element after the store
pub at_set : {A : Type 0} (P : A → Type 0) (l : List A) (i k : ℕ) (v d : A) → P v → P (get_or l k d) → P (get_or (set l i v) k d)
at_set P [] i k v d g h = h
at_set P (x ∷ l) zero zero v d g h = g
at_set P (x ∷ l) zero (suc k) v d g h = h
at_set P (x ∷ l) (suc i) zero v d g h = h
at_set P (x ∷ l) (suc i) (suc k) v d g h = at_set P l i k v d g h
