-- The first of a sequence, and loops that write them.
use mathlib.Core.Path.{◌≡◌, refl, sym, ap, ◌∙◌}
use mathlib.Core.List.{List, [], ◌∷◌, ◌++◌}
use mathlib.Core.Logic.{⊎_elim}
use Prim.Native.Nat.{ℕ, zero, suc, ◌+◌, ◌-◌, ◌*◌, ◌≤◌, ◌<◌}
use native.Mathlib.Numerals.{add-one}
use native.Mathlib.Nat.{eq-or-lt_of_le, mul-le-mul_left}
use native.Mathlib.Omega.{arith}
use lib.ListN.{length, set, replicate, length-append}
use lib.Seq.{set-append_left}
use lib.IntN.{ℤ}
use Rattle.words.specs.Word.{written, firsts, joined, table}
use Rattle.words.proofs.Writing.{written-length, written_none, written-more}

pub firsts-length : {A : Type 0} (f : ℕ → A) (n : ℕ) → length (firsts f n) ≡ n
unfolding firsts
firsts-length f zero = refl
firsts-length f (suc n) = length-append (firsts f n) (f n ∷ []) ∙ omega (arith, firsts-length f n)

-- ---- writing
-- what is written so far: the first i of n
pub record Joined (f : ℕ → List ℤ) (out₀ out : List ℤ) (at n i : ℕ) : Type 0 where
  pub within : i ≤ n
  pub kept : length out ≡ length out₀
  pub so_far : out ≡ written out₀ at (joined f i)

-- nothing yet
pub joined-none : (f : ℕ → List ℤ) (out : List ℤ) (at n : ℕ) → Joined f out out at n 0
unfolding joined
joined-none f out at n = record { within = omega arith; kept = refl; so_far = written_none out at }

-- each of the sequence has k words
module _ (f : ℕ → List ℤ) (k : ℕ) (sized : (i : ℕ) → length (f i) ≡ k) where
  pub joined_length : (n : ℕ) → length (joined f n) ≡ k * n
  unfolding joined
  joined_length zero = omega arith
  joined_length (suc n) = length-append (joined f n) (f n) ∙ omega (arith, sized n, joined_length n)

  -- one more
  pub joined-more :
      {out₀ out out' : List ℤ} {at n i : ℕ} (v : List ℤ) → Joined f out₀ out at n i → i < n → at + k * n ≤ length out₀ → v ≡ f i
      → out' ≡ written out (at + k * i) v
      → Joined f out₀ out' at n (i + 1)
  unfolding joined
  joined-more {out₀} {out} {out'} {at} {n} {i} v j h room p e = record {
    within = omega arith;
    kept = ap length e ∙ written-length out v (at + k * i) (omega (arith, j.kept, ap length p, sized i, mul-le-mul_left k h)) ∙ j.kept;
    so_far =
        rw (e, p, j.so_far, ← joined_length i, add-one)
        (written-more out₀ (joined f i) (f i) at (omega (arith, joined_length i, sized i, mul-le-mul_left k h)));
  }

-- at the end
pub joined-all : {f : ℕ → List ℤ} {out₀ out : List ℤ} {at n i : ℕ} → Joined f out₀ out at n i → n ≤ i → out ≡ written out₀ at (joined f n)
joined-all {f} {out₀} {out} {at} {n} {i} j h = let e : i ≡ n = omega (arith, j.within) in rw (j.so_far, e)

-- ---- a table of which one place is another
set-behind : {A : Type 0} (xs ys : List A) (j : ℕ) (v : A) → set (xs ++ ys) (length xs + j) v ≡ xs ++ set ys j v
set-behind [] ys j v = let e : 0 + j ≡ j = omega arith in ap (λ (k : ℕ). set ys k v) e
set-behind {A} (x ∷ xs) ys j v =
    let e : suc (length xs) + j ≡ suc (length xs + j) = omega arith in
    ap (λ (k : ℕ). set (x ∷ (xs ++ ys)) k v) e ∙ ap (λ (r : List A). x ∷ r) (set-behind xs ys j v)

-- the same, place by place
firsts_same : {A : Type 0} (g h : ℕ → A) (n : ℕ) → ((m : ℕ) → m < n → h m ≡ g m) → firsts g n ≡ firsts h n
unfolding firsts
firsts_same g h zero e = refl
firsts_same g h (suc n) e = rw (firsts_same g h n (λ m l. e m (omega arith)), e n (omega arith))

-- one of them is another
firsts-set : {A : Type 0} (g h : ℕ → A) (i n : ℕ) (v : A) → i < n → h i ≡ v → ((m : ℕ) → (m ≡ i → ⊥) → h m ≡ g m) → set (firsts g n) i v ≡ firsts h n
unfolding firsts
firsts-set g h i zero v l new old = absurd (omega arith)
firsts-set {A} g h i (suc n) v l new old =
    ⊎_elim
    (λ (e : i ≡ n).
    ap (λ (m : ℕ). set (firsts g n ++ g n ∷ []) m v) (omega (arith, e, firsts-length g n))
    ∙ set-behind (firsts g n) (g n ∷ []) 0 v
    ∙ ap (λ (x : A). firsts g n ++ x ∷ []) (sym new ∙ ap h e)
    ∙ ap (λ (xs : List A). xs ++ h n ∷ []) (firsts_same g h n (λ m q. old m (λ (p : m ≡ i). omega arith))))
    (λ (q : i < n).
    set-append_left (firsts g n) (g n ∷ []) i v (omega (arith, firsts-length g n))
    ∙ ap (λ (xs : List A). xs ++ g n ∷ []) (firsts-set g h i n v q new old)
    ∙ ap (λ (x : A). firsts h n ++ x ∷ []) (sym (old n (λ (p : n ≡ i). omega arith))))
    (eq-or-lt_of_le (omega arith))

-- one place of a table is another
pub table-set :
    {A : Type 0} (size : ℕ) (d : A) (g h : ℕ → A) (i n : ℕ) (v : A) → i < n → h i ≡ v → ((m : ℕ) → (m ≡ i → ⊥) → h m ≡ g m)
    → set (table size d g n) i v ≡ table size d h n
unfolding table
table-set {A} size d g h i n v l new old =
    set-append_left (firsts g n) _ i v (omega (arith, firsts-length g n)) ∙ ap (λ (xs : List A). xs ++ replicate (size - n) d) (firsts-set g h i n v l new old)
