-- Lists compared entry by entry.
use mathlib.Core.Path.{◌≡◌, refl, sym, ◌∙◌, ap, subst}
use mathlib.Core.Bool.{Bool, true, false, ◌&&◌}
use mathlib.Core.List.{List}
use Prim.Native.Nat.{ℕ, zero, suc, ◌+◌, ◌≤◌, ◌<◌}
use mathlib.Core.Logic.{⊎_elim}
use native.Mathlib.Nat.{eq-or-lt_of_le}
use native.Mathlib.Omega.{arith}
use borrow.Author.Tests.{eqb-true}
use lib.Dec.{eqb}
use lib.ListN.{get_or}
use Rattle.refusals.proofs.Tests.{and_first, and_second}
use Rattle.weak_known.specs.Known.{same_as}

-- the entries of another function that is the same there
pub same_by : (l : List ℕ) (f g : ℕ → ℕ) (i n : ℕ) → ((j : ℕ) → i ≤ j → j < i + n → f j ≡ g j) → same_as l f i n ≡ same_as l g i n
unfolding same_as
same_by l f g i zero h = refl
same_by l f g i (suc n) h = λ k. eqb (get_or l i 0) (h i (omega arith) (omega arith) k) && same_by l f g (suc i) n (λ j a b. h j (omega arith) (omega arith)) k

and_assoc : (x y z : Bool) → (x && (y && z)) ≡ ((x && y) && z)
and_assoc true y z = refl
and_assoc false y z = refl

pub and-true : (x : Bool) → (x && true) ≡ x
and-true true = refl
and-true false = refl

-- two stretches, one behind the other
pub same-split : (l : List ℕ) (f : ℕ → ℕ) (i m n : ℕ) → same_as l f i (m + n) ≡ (same_as l f i m && same_as l f (i + m) n)
unfolding same_as
same-split l f i zero n = let a : i + 0 ≡ i = omega arith in let z : 0 + n ≡ n = omega arith in rw (z, a)
same-split l f i (suc m) n =
    let a : suc i + m ≡ i + suc m = omega arith in
    let z : suc m + n ≡ suc (m + n) = omega arith in
    ap (same_as l f i) z ∙ ap (λ (b : Bool). eqb (get_or l i 0) (f i) && b) (same-split l f (suc i) m n)
    ∙ and_assoc (eqb (get_or l i 0) (f i)) (same_as l f (suc i) m) (same_as l f (suc i + m) n)
    ∙ ap (λ (j : ℕ). (eqb (get_or l i 0) (f i) && same_as l f (suc i) m) && same_as l f j n) a

-- one entry more behind
pub same_more : (l : List ℕ) (f : ℕ → ℕ) (i n : ℕ) → same_as l f i (n + 1) ≡ (same_as l f i n && eqb (get_or l (i + n) 0) (f (i + n)))
unfolding same_as
same_more l f i n = same-split l f i n 1 ∙ ap (λ (b : Bool). same_as l f i n && b) (and-true (eqb (get_or l (i + n) 0) (f (i + n))))

-- the entry j of a stretch that is the same
pub same_at : (l : List ℕ) (f : ℕ → ℕ) (i n : ℕ) → same_as l f i n ≡ true → (j : ℕ) → i ≤ j → j < i + n → get_or l j 0 ≡ f j
unfolding same_as
same_at l f i zero e j a b = absurd (omega arith)
same_at l f i (suc n) e j a b =
    ⊎_elim (λ q. subst (λ (x : ℕ). get_or l x 0 ≡ f x) q (eqb-true (get_or l i 0) (f i) (and_first (eqb (get_or l i 0) (f i)) (same_as l f (suc i) n) e)))
    (λ h. same_at l f (suc i) n (and_second (eqb (get_or l i 0) (f i)) (same_as l f (suc i) n) e) j h (omega arith)) (eq-or-lt_of_le a)

-- a walk that is handed forwards: where the entries so far are the same, x is the next one's number
pub walk-on : (l : List ℕ) (f : ℕ → ℕ) (s n x : ℕ) (before here : Bool) → before ≡ same_as l f s n → here ≡ eqb (get_or l (s + n) 0) x
    → (before ≡ true → x ≡ f (s + n))
    → (before && here) ≡ same_as l f s (n + 1)
walk-on l f s n x true here e q h =
    q ∙ ap (eqb (get_or l (s + n) 0)) (h refl) ∙ ap (λ (b : Bool). b && eqb (get_or l (s + n) 0) (f (s + n))) e ∙ sym (same_more l f s n)
walk-on l f s n x false here e q h = ap (λ (b : Bool). b && eqb (get_or l (s + n) 0) (f (s + n))) e ∙ sym (same_more l f s n)
