-- Adding to a table, and how often a segment is in the groups.
use mathlib.Core.Path.{◌≡◌, refl, ap, ◌∙◌}
use mathlib.Core.Bool.{Bool, true, false}
use mathlib.Core.Logic.{◌⊎◌, inl, inr, ⊎_elim}
use mathlib.Core.List.{List, [], ◌∷◌, map}
use Prim.Native.Nat.{ℕ, zero, suc, ◌+◌, ◌-◌, ◌≤◌, ◌<◌}
use native.Mathlib.Numerals.{sub-one}
use native.Mathlib.Omega.{arith}
use borrow.Author.Tests.{eqb-true, eqb-false}
use lib.ListN.{length, get_or, set, length-set, get_or-map}
use lib.Seq.{get_or-set_same, get_or-set_other}
use lib.Dec.{eqb}
use Rattle.signed.proofs.Choices.{either_way, cond_map}
use Rattle.axis.specs.Ring.{times}
use Rattle.axis.proofs.Walks.{same?, times-nil}
use Rattle.build_join.specs.Joining.{settle}

-- ---- maps
pub map-set : {A B : Type 0} (f : A → B) (l : List A) (i : ℕ) (y : A) → map f (set l i y) ≡ set (map f l) i (f y)
map-set f [] i y = refl
map-set f (x ∷ xs) zero y = refl
map-set {A} {B} f (x ∷ xs) (suc i) y = ap (λ (zs : List B). f x ∷ zs) (map-set f xs i y)

-- ---- places
pub length-settle : {A : Type 0} (st : A → Bool) (d x : A) (xs : List A) (i : ℕ) → length (settle st d x xs i) ≡ length xs
unfolding settle
length-settle st d x xs zero = length-set xs 0 x
length-settle {A} st d x xs (suc i) = either_way (λ (l : List A). length l ≡ length xs) (st (get_or xs i d)) _ _
    (length-set xs (suc i) x)
    (length-settle st d x (set xs (suc i) (get_or xs i d)) i ∙ length-set xs (suc i) (get_or xs i d))

-- After a store: what holds of the others and of the stored holds of all.
pub set_all : {A : Type 0} (Q : A → Type 0) (d : A) (xs : List A) (i b : ℕ) (y : A) → i < length xs → Q y → ((k : ℕ) → k < b → (k ≡ i → ⊥) → Q (get_or xs k d))
    → (k : ℕ) → k < b
    → Q (get_or (set xs i y) k d)
set_all Q d xs i b y hi q h k hk = ⊎_elim
    (λ e. rw e (rw (get_or-set_same xs i y d hi) q))
    (λ e. rw (get_or-set_other xs i k y d e) (h k hk e))
    (same? k i)

pub settle-all : {A : Type 0} (Q : A → Type 0) (st : A → Bool) (d x : A) (b : ℕ) → Q x → (xs : List A) (i : ℕ) → i < length xs → i < b
    → ((k : ℕ) → k < b → (k ≡ i → ⊥) → Q (get_or xs k d))
    → (k : ℕ) → k < b → Q (get_or (settle st d x xs i) k d)
unfolding settle
settle-all Q st d x b q xs zero hi hb h = set_all Q d xs 0 b x hi q h
settle-all {A} Q st d x b q xs (suc i) hi hb h = either_way (λ (l : List A). (k : ℕ) → k < b → Q (get_or l k d)) (st (get_or xs i d)) _ _
    (set_all Q d xs (suc i) b x hi q h)
    (settle-all Q st d x b q (set xs (suc i) (get_or xs i d)) i (rw length-set (omega arith)) (omega arith)
    (λ k hk e. set_all Q d xs (suc i) b (get_or xs i d) hi (h i (omega arith) (λ (e : i ≡ suc i). omega arith)) h k hk))

pub settle-above : {A : Type 0} (st : A → Bool) (d x : A) (xs : List A) (i k : ℕ) → i < k → get_or (settle st d x xs i) k d ≡ get_or xs k d
unfolding settle
settle-above st d x xs zero k h = get_or-set_other xs 0 k x d (λ (e : k ≡ 0). omega arith)
settle-above {A} st d x xs (suc i) k h = either_way (λ (l : List A). get_or l k d ≡ get_or xs k d) (st (get_or xs i d)) _ _
    (get_or-set_other xs (suc i) k x d (λ (e : k ≡ suc i). omega arith))
    (settle-above st d x (set xs (suc i) (get_or xs i d)) i k (omega arith) ∙ get_or-set_other xs (suc i) k (get_or xs i d) d (λ (e : k ≡ suc i). omega arith))

-- ---- how often a segment is in the groups
unfoldable pub total : ℕ → List (List ℕ) → ℕ
total x [] = 0
total x (g ∷ gs) = times x g + total x gs

pub total-set : (x : ℕ) (gs : List (List ℕ)) (k : ℕ) (g : List ℕ) → k < length gs → total x (set gs k g) + times x (get_or gs k []) ≡ total x gs + times x g
unfolding total
total-set x [] k g h = absurd (omega arith)
total-set x (y ∷ gs) zero g h = omega arith
total-set x (y ∷ gs) (suc k) g h = omega (arith, total-set x gs k g (omega arith))

pub total-at : (x : ℕ) (gs : List (List ℕ)) (k : ℕ) → times x (get_or gs k []) ≤ total x gs
unfolding total
total-at x [] k = omega (arith, times-nil x)
total-at x (y ∷ gs) zero = omega arith
total-at x (y ∷ gs) (suc k) = omega (arith, total-at x gs k)

pub total-two : (x : ℕ) (gs : List (List ℕ)) (k j : ℕ) → (k ≡ j → ⊥) → times x (get_or gs k []) + times x (get_or gs j []) ≤ total x gs
unfolding total
total-two x [] k j h = omega (arith, times-nil x)
total-two x (y ∷ gs) zero zero h = absurd (h refl)
total-two x (y ∷ gs) zero (suc j) h = omega (arith, total-at x gs j)
total-two x (y ∷ gs) (suc k) zero h = omega (arith, total-at x gs k)
total-two x (y ∷ gs) (suc k) (suc j) h = omega (arith, total-two x gs k j (λ e. h (ap suc e)))

pub total-settle : (x : ℕ) (st : List ℕ → Bool) (g : List ℕ) (gs : List (List ℕ)) (i : ℕ) → i < length gs
    → total x (settle st [] g gs i) + times x (get_or gs i []) ≡ total x gs + times x g
unfolding settle
total-settle x st g gs zero h = total-set x gs 0 g h
total-settle x st g gs (suc i) h = either_way (λ (l : List (List ℕ)). total x l + times x (get_or gs (suc i) []) ≡ total x gs + times x g) (st (get_or gs i [])) _ _
    (total-set x gs (suc i) g h)
    (let gs' = set gs (suc i) (get_or gs i []) in
    let a : total x (settle st [] g gs' i) + times x (get_or gs' i []) ≡ total x gs' + times x g = total-settle x st g gs' i (rw length-set (omega arith)) in
    let e : get_or gs' i [] ≡ get_or gs i [] = get_or-set_other gs (suc i) i (get_or gs i []) [] (λ (e : i ≡ suc i). omega arith) in
    let b : total x gs' + times x (get_or gs (suc i) []) ≡ total x gs + times x (get_or gs i []) = total-set x gs (suc i) (get_or gs i []) h in
    omega (arith, ap (times x) e))

-- ---- the walk back
module _ {A : Type 0} (st : A → Bool) (d x : A) where
  pub settle-end : (xs : List A) (i : ℕ) → i ≡ 0 → settle st d x xs i ≡ set xs i x
  unfolding settle
  settle-end xs i h = rw h

  pub settle-stop : (xs : List A) (i : ℕ) → 0 < i → st (get_or xs (i - 1) d) ≡ true → settle st d x xs i ≡ set xs i x
  unfolding settle
  settle-stop xs zero h s = absurd (omega arith)
  settle-stop xs (suc i) h s = let s' = rw sub-one at s in rw s'

  pub settle-on : (xs : List A) (i : ℕ) → 0 < i → st (get_or xs (i - 1) d) ≡ false → settle st d x (set xs i (get_or xs (i - 1) d)) (i - 1) ≡ settle st d x xs i
  unfolding settle
  settle-on xs zero h s = absurd (omega arith)
  settle-on xs (suc i) h s = let s' = rw sub-one at s in rw (sub-one, s')

-- what is shown of a table settles as the table does
pub settle-map : {A B : Type 0} (f : A → B) (st : B → Bool) (d x : A) (xs : List A) (i : ℕ)
    → map f (settle (λ (a : A). st (f a)) d x xs i) ≡ settle st (f d) (f x) (map f xs) i
unfolding settle
settle-map f st d x xs zero = map-set f xs 0 x
settle-map {A} {B} f st d x xs (suc i) =
    let at : get_or (map f xs) i (f d) ≡ f (get_or xs i d) = get_or-map f xs i d in
    rw at
    (cond_map (map f) (st (f (get_or xs i d))) _ _ _ _
    (map-set f xs (suc i) x)
    (settle-map f st d x (set xs (suc i) (get_or xs i d)) i ∙ ap (λ (l : List B). settle st (f d) (f x) l i) (map-set f xs (suc i) (get_or xs i d))))
