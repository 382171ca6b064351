-- One turn of a walk along a contour.
use mathlib.Core.Path.{◌≡◌, refl, ◌∙◌, ap}
use mathlib.Core.Bool.{Bool, true, false, cond, ◌&&◌}
use mathlib.Core.List.{List}
use mathlib.Core.Logic.{◌⊎◌, inl, inr}
use Prim.Native.Nat.{ℕ, suc, ◌+◌, ◌-◌, ◌≤◌, ◌<◌}
use native.Mathlib.Nat.{lt_irrefl, eq-or-lt_of_le, le_of_suc-le-suc}
use native.Mathlib.Numerals.{add-one}
use native.Mathlib.Omega.{arith}
use lib.Dec.{eqb}
use lib.ListN.{length, get_or, set, length-set}
use lib.Seq.{get_or-set_same, get_or-set_other}
use Rattle.weak_contour.specs.Contour.{is_touched, first_touched, last_touched}
use Rattle.weak_known.specs.Known.{same_as, touched_number}
use Rattle.weak_known.specs.Walks.{found_or, prior_at, later_at, Put}
use Rattle.weak_known.proofs.Comparing.{walk-on}

-- ---- comparing
-- before the first turn
pub walk_none : (l : List ℕ) (f : ℕ → ℕ) (s : ℕ) → true ≡ same_as l f s (s - s)
unfolding same_as
walk_none l f s = let a : s - s ≡ 0 = omega arith in rw a

-- forwards, from s up to i
pub walk-to : (l : List ℕ) (f : ℕ → ℕ) (s i x : ℕ) (before here : Bool) → s ≤ i → before ≡ same_as l f s (i - s) → here ≡ eqb (get_or l i 0) x
    → (before ≡ true → x ≡ f i)
    → (before && here) ≡ same_as l f s (i + 1 - s)
walk-to l f s i x before here h e q k =
    let a : s + (i - s) ≡ i = omega arith in
    let b : i + 1 - s ≡ i - s + 1 = omega arith in
    rw b (walk-on l f s (i - s) x before here e (rw a q) (λ z. rw a (k z)))

-- ---- writing
pub put-none : (f : ℕ → ℕ) (a : ℕ) (l : List ℕ) → Put f a a l l
put-none f a l = record { len = refl; inside = λ i h k. absurd (lt_irrefl a (omega arith)); below = λ i h. refl; above = λ i h. refl }

module _ (f : ℕ → ℕ) (a i : ℕ) (l m : List ℕ) (v : ℕ) (low : a ≤ i) (high : i < length l) (w : Put f a i l m) (e : v ≡ f i) where
  more-inside : (j : ℕ) → a ≤ j → (j ≡ i) ⊎ (j < i) → get_or (set m i v) j 0 ≡ f j
  more-inside j h (inl q) = rw q (get_or-set_same m i v 0 (omega (arith, w.len)) ∙ e)
  more-inside j h (inr q) = get_or-set_other m i j v 0 (omega arith) ∙ w.inside j h q

  pub put-more : Put f a (i + 1) l (set m i v)
  put-more =
      record {
        len = length-set m i v ∙ w.len;
        inside = λ j h k. more-inside j h (eq-or-lt_of_le (le_of_suc-le-suc (rw add-one at k)));
        below = λ j h. get_or-set_other m i j v 0 (omega arith) ∙ w.below j h;
        above = λ j h. get_or-set_other m i j v 0 (omega arith) ∙ w.above j (omega arith);
      }

module _ (f : ℕ → ℕ) (i b : ℕ) (l m : List ℕ) (v : ℕ) (o : 0 < i) (high : i ≤ length l) (w : Put f i b l m) (e : v ≡ f (i - 1)) where
  front-inside : (j : ℕ) → j < b → (i - 1 ≡ j) ⊎ (i - 1 < j) → get_or (set m (i - 1) v) j 0 ≡ f j
  front-inside j h (inl q) = rw (← q) (get_or-set_same m (i - 1) v 0 (omega (arith, w.len)) ∙ e)
  front-inside j h (inr q) = get_or-set_other m (i - 1) j v 0 (omega arith) ∙ w.inside j (omega arith) h

  pub put_front : i ≤ b → Put f (i - 1) b l (set m (i - 1) v)
  put_front g =
      record {
        len = length-set m (i - 1) v ∙ w.len;
        inside = λ j h k. front-inside j k (eq-or-lt_of_le h);
        below = λ j h. get_or-set_other m (i - 1) j v 0 (omega arith) ∙ w.below j (omega arith);
        above = λ j h. get_or-set_other m (i - 1) j v 0 (omega arith) ∙ w.above j h;
      }

-- what a walk holds, one turn on
pub held_on : (t : List ℕ) (s last i : ℕ) → s ≤ i → cond (is_touched t i) i (found_or last (last_touched t s (i - s))) ≡ found_or last (last_touched t s (i + 1 - s))
unfolding found_or last_touched
held_on t s last i h =
    let a : i + 1 - s ≡ suc (i - s) = omega arith in
    let b : s + (i - s) ≡ i = omega arith in
    by a b (is_touched t i) refl
  where
    by : i + 1 - s ≡ suc (i - s) → s + (i - s) ≡ i → (x : Bool) → is_touched t i ≡ x
        → cond (is_touched t i) i (found_or last (last_touched t s (i - s))) ≡ found_or last (last_touched t s (i + 1 - s))
    by a b true q = rw (a, b, q)
    by a b false q = rw (a, b, q)

pub held_back : (t : List ℕ) (e first i : ℕ) → 0 < i → i ≤ e → cond (is_touched t (i - 1)) (i - 1) (found_or first (first_touched t i (e - i)))
    ≡ found_or first (first_touched t (i - 1) (e - (i - 1)))
unfolding found_or first_touched
held_back t e first i o h =
    let a : e - (i - 1) ≡ suc (e - i) = omega arith in
    let b : suc (i - 1) ≡ i = omega arith in
    by a b (is_touched t (i - 1)) refl
  where
    by : e - (i - 1) ≡ suc (e - i) → suc (i - 1) ≡ i → (x : Bool) → is_touched t (i - 1) ≡ x
        → cond (is_touched t (i - 1)) (i - 1) (found_or first (first_touched t i (e - i))) ≡ found_or first (first_touched t (i - 1) (e - (i - 1)))
    by a b true q = rw (a, q)
    by a b false q = rw (a, q, b)

pub held_none : (t : List ℕ) (s last : ℕ) → last ≡ found_or last (last_touched t s (s - s))
unfolding found_or last_touched
held_none t s last = let a : s - s ≡ 0 = omega arith in rw a

pub held-end : (t : List ℕ) (e first : ℕ) → first ≡ found_or first (first_touched t e (e - e))
unfolding found_or first_touched
held-end t e first = let a : e - e ≡ 0 = omega arith in rw a

-- a number by what is held
pub later-is : (t : List ℕ) (e first i : ℕ) → 0 < i → cond (is_touched t (i - 1)) touched_number (found_or first (first_touched t i (e - i)))
    ≡ later_at t e first (i - 1)
unfolding later_at
later-is t e first i o = let b : suc (i - 1) ≡ i = omega arith in rw b

-- ---- the same, as the code comes to it
pub prior-number : (t : List ℕ) (s last i x held : ℕ) → x ≡ cond (is_touched t i) touched_number held → held ≡ found_or last (last_touched t s (i - s))
    → x ≡ prior_at t s last i
unfolding prior_at
prior-number t s last i x held a b = a ∙ ap (cond (is_touched t i) touched_number) b

pub prior-held : (t : List ℕ) (s last i x held : ℕ) → s ≤ i → x ≡ cond (is_touched t i) i held → held ≡ found_or last (last_touched t s (i - s))
    → x ≡ found_or last (last_touched t s (i + 1 - s))
prior-held t s last i x held h a b = a ∙ ap (cond (is_touched t i) i) b ∙ held_on t s last i h

pub later-number : (t : List ℕ) (e first i x held : ℕ) → 0 < i → x ≡ cond (is_touched t (i - 1)) touched_number held
    → held ≡ found_or first (first_touched t i (e - i)) → x ≡ later_at t e first (i - 1)
later-number t e first i x held o a b = a ∙ ap (cond (is_touched t (i - 1)) touched_number) b ∙ later-is t e first i o

pub later-held : (t : List ℕ) (e first i x held : ℕ) → 0 < i → i ≤ e → x ≡ cond (is_touched t (i - 1)) (i - 1) held
    → held ≡ found_or first (first_touched t i (e - i))
    → x ≡ found_or first (first_touched t (i - 1) (e - (i - 1)))
later-held t e first i x held o h a b = a ∙ ap (cond (is_touched t (i - 1)) (i - 1)) b ∙ held_back t e first i o h
