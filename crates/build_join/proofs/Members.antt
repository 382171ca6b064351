-- Members of a group: how often one is there, and how many there can be.
use mathlib.Core.Path.{◌≡◌, refl, sym, subst}
use mathlib.Core.Bool.{Bool, true, false, cond}
use mathlib.Core.List.{List, [], ◌∷◌, ◌++◌}
use Prim.Native.Nat.{ℕ, zero, suc, ◌+◌, ◌≤◌, ◌<◌}
use native.Mathlib.Omega.{arith}
use borrow.Author.Tests.{eq-eqb, ne_eqb, eqb-true, eqb-false, lt-ltb, le-ltb, ltb-true, ltb-false}
use lib.ListN.{length}
use lib.Dec.{eqb, ltb}
use Rattle.axis.specs.Ring.{times}
use Rattle.build_join.specs.Joining.{last_of, last_in, head_or}

pub times-head : (m : ℕ) (ms : List ℕ) → 1 ≤ times m (m ∷ ms)
unfolding times
times-head m ms = rw (eq-eqb m m refl) (omega arith)

-- one that is not in a list is none of its members
pub record Apart (m x : ℕ) (ms : List ℕ) : Type 0 where
  pub head : m ≡ x → ⊥
  pub rest : times m ms ≡ 0

pub times-apart : (m x : ℕ) (ms : List ℕ) → times m (x ∷ ms) ≡ 0 → Apart m x ms
unfolding times
times-apart m x ms h = go (eqb m x) refl h
  where
    go : (t : Bool) → eqb m x ≡ t → cond t 1 0 + times m ms ≡ 0 → Apart m x ms
    go true e g = absurd (omega arith)
    go false e g = record { head = eqb-false m x e; rest = omega arith }

pub times_more : (x m : ℕ) (ms : List ℕ) → times x ms ≤ times x (m ∷ ms)
unfolding times
times_more x m ms = omega arith

pub times-last : (m : ℕ) (ms : List ℕ) → 1 ≤ times (last_of m ms) (m ∷ ms)
times-last m [] = times-head m []
times-last m (x ∷ ms) = omega (arith, times-last x ms, times_more (last_of x ms) m (x ∷ ms))

pub times_snoc : (x i : ℕ) (ms : List ℕ) → times x (ms ++ i ∷ []) ≡ times x ms + times x (i ∷ [])
unfolding times
times_snoc x i [] = omega arith
times_snoc x i (m ∷ ms) = omega (arith, times_snoc x i ms)

pub times-one : (x i : ℕ) → (x ≡ i → ⊥) → times x (i ∷ []) ≡ 0
unfolding times
times-one x i h = rw (ne_eqb x i h)

pub times-self : (i : ℕ) → times i (i ∷ []) ≡ 1
unfolding times
times-self i = rw (eq-eqb i i refl)

pub first-in : (g : List ℕ) → 0 < length g → 1 ≤ times (head_or 0 g) g
first-in [] h = absurd (omega arith)
first-in (m ∷ ms) h = times-head m ms

pub last-in : (g : List ℕ) → 0 < length g → 1 ≤ times (last_in g) g
last-in [] h = absurd (omega arith)
last-in (m ∷ ms) h = times-last m ms

-- ---- each at most once
abbrev pub Once : List ℕ → Type 0
Once ms = (x : ℕ) → times x ms ≤ 1

pub once-rest : (m : ℕ) (ms : List ℕ) → Once (m ∷ ms) → Once ms
once-rest m ms h x = omega (arith, h x, times_more x m ms)

-- the first of several is not the last
pub head-last : (m x : ℕ) (ms : List ℕ) → Once (m ∷ x ∷ ms) → m ≡ last_of x ms → ⊥
unfolding times
head-last m x ms h e =
    let a : 1 ≤ times m (x ∷ ms) = subst (λ (z : ℕ). 1 ≤ times z (x ∷ ms)) (sym e) (times-last x ms) in
    let b : times m (m ∷ x ∷ ms) ≤ 1 = h m in
    let d : times m (m ∷ x ∷ ms) ≡ 1 + times m (x ∷ ms) = rw (eq-eqb m m refl) in
    omega arith

-- ---- how many there are
-- the members below n
unfoldable below : ℕ → List ℕ → ℕ
below n [] = 0
below n (m ∷ ms) = cond (ltb m n) 1 0 + below n ms

below_none : (ms : List ℕ) → below 0 ms ≡ 0
unfolding below
below_none [] = refl
below_none (m ∷ ms) = rw (le-ltb m 0 (omega arith)) (omega (arith, below_none ms))

one_more : (m n : ℕ) → cond (ltb m (suc n)) 1 0 ≡ cond (ltb m n) 1 0 + cond (eqb n m) 1 0
one_more m n = go (ltb m n) refl (eqb n m) refl
  where
    go : (a : Bool) → ltb m n ≡ a → (b : Bool) → eqb n m ≡ b → cond (ltb m (suc n)) 1 0 ≡ cond a 1 0 + cond b 1 0
    go true h true e = absurd (let p = ltb-true m n h in let q = eqb-true n m e in omega arith)
    go true h false e = let p = ltb-true m n h in rw (lt-ltb m (suc n) (omega arith))
    go false h true e = let q = eqb-true n m e in rw (lt-ltb m (suc n) (omega arith))
    go false h false e = let p = ltb-false m n h in let q = eqb-false n m e in rw (le-ltb m (suc n) (omega (arith, q)))

below_suc : (n : ℕ) (ms : List ℕ) → below (suc n) ms ≡ below n ms + times n ms
unfolding below times
below_suc n [] = refl
below_suc n (m ∷ ms) = omega (arith, below_suc n ms, one_more m n)

below-few : (n : ℕ) (ms : List ℕ) → Once ms → below n ms ≤ n
below-few zero ms o = omega (arith, below_none ms)
below-few (suc n) ms o = omega (arith, below_suc n ms, below-few n ms o, o n)

below_all : (n : ℕ) (ms : List ℕ) → ((x : ℕ) → 0 < times x ms → x < n) → below n ms ≡ length ms
unfolding below
below_all n [] h = refl
below_all n (m ∷ ms) h = rw (lt-ltb m n (h m (omega (arith, times-head m ms)))) (omega (arith, below_all n ms (λ x p. h x (omega (arith, times_more x m ms)))))

-- distinct numbers below n are at most n
pub few : (n : ℕ) (ms : List ℕ) → Once ms → ((x : ℕ) → 0 < times x ms → x < n) → length ms ≤ n
few n ms o h = omega (arith, below_all n ms h, below-few n ms o)
