-- The searches for touched points: what they find, and what it says.
use mathlib.Core.Path.{◌≡◌, refl, sym, ap, subst}
use mathlib.Core.Bool.{Bool, true, false}
use mathlib.Core.List.{List}
use mathlib.Core.Logic.{◌⊎◌, inl, inr, ⊎_elim}
use mathlib.Core.Option.{Option, some, none}
use Prim.Native.Nat.{ℕ, zero, suc, ◌+◌, ◌≤◌, ◌<◌}
use native.Mathlib.Nat.{eq-or-lt_of_le, le_of_suc-le-suc, lt_irrefl}
use native.Mathlib.Omega.{arith}
use borrow.Author.Tests.{ltb-true, ltb-false, lt-ltb, le-ltb}
use lib.ListN.{get_or}
use Rattle.weak_contour.specs.Contour.{is_touched, first_touched, last_touched, or_else}
use Rattle.weak_contour.specs.Steps.{Clear}

-- ---- marks
-- whether a point is touched, by its mark
pub is-touched : (t : List ℕ) (i : ℕ) → 0 < get_or t i 0 → is_touched t i ≡ true
is-touched t i h = lt-ltb 0 (get_or t i 0) h

pub not-touched : (t : List ℕ) (i : ℕ) → get_or t i 0 ≡ 0 → is_touched t i ≡ false
not-touched t i h = le-ltb 0 (get_or t i 0) (omega arith)

-- what the marks of a touched and an untouched point are
pub marked : (t : List ℕ) (i : ℕ) → is_touched t i ≡ true → 0 < get_or t i 0
marked t i e = ltb-true 0 (get_or t i 0) e

pub unmarked : (t : List ℕ) (i : ℕ) → is_touched t i ≡ false → get_or t i 0 ≡ 0
unmarked t i e = omega (arith, ltb-false 0 (get_or t i 0) e)

-- ---- clear stretches, with one point more behind or in front
clear_behind : (t : List ℕ) (a b : ℕ) → Clear t a b → get_or t b 0 ≡ 0 → Clear t a (suc b)
clear_behind t a b c e z h l = ⊎_elim (λ q. subst (λ (x : ℕ). get_or t x 0 ≡ 0) (sym q) e) (λ q. c z q l) (eq-or-lt_of_le (le_of_suc-le-suc h))

clear-front : (t : List ℕ) (a b : ℕ) → get_or t a 0 ≡ 0 → Clear t (suc a) b → Clear t a b
clear-front t a b e c z h l = ⊎_elim (λ q. subst (λ (x : ℕ). get_or t x 0 ≡ 0) q e) (λ q. c z h q) (eq-or-lt_of_le l)

-- ---- the last touched point of a stretch
-- p is a touched point of the stretch from a up to b, and those behind it are clear
pub record Last (t : List ℕ) (a b p : ℕ) : Type 0 where
  pub low : a ≤ p
  pub high : p < b
  pub mark : 0 < get_or t p 0
  pub clear : Clear t (suc p) b

last_step : (t : List ℕ) (a p n : ℕ) → (p < a + n → last_touched t a n ≡ some p) → 0 < get_or t p 0 → (p < a + n → get_or t (a + n) 0 ≡ 0)
    → (p ≡ a + n) ⊎ (p < a + n) → last_touched t a (suc n) ≡ some p
unfolding last_touched
last_step t a p n rec m z (inl e) = rw (is-touched t (a + n) (subst (λ (k : ℕ). 0 < get_or t k 0) e m)) (ap some (sym e))
last_step t a p n rec m z (inr h) = rw (not-touched t (a + n) (z h)) (rec h)

-- such a point is found
pub last_some : (t : List ℕ) (a p n : ℕ) → a ≤ p → p < a + n → 0 < get_or t p 0 → Clear t (suc p) (a + n) → last_touched t a n ≡ some p
last_some t a p zero l h m z = absurd (lt_irrefl p (omega arith))
last_some t a p (suc n) l h m z =
    last_step t a p n (λ g. last_some t a p n l g m (λ k x y. z k (omega arith) y)) m (λ g. z (a + n) (omega arith) g) (eq-or-lt_of_le (omega arith))

-- and none in a clear stretch
pub last_none : (t : List ℕ) (a n : ℕ) → Clear t a (a + n) → last_touched t a n ≡ none
unfolding last_touched
last_none t a zero z = refl
last_none t a (suc n) z = rw (not-touched t (a + n) (z (a + n) (omega arith) (omega arith))) (last_none t a n (λ k x y. z k (omega arith) y))

-- what is found is such a point
pub last_is : (t : List ℕ) (a n p : ℕ) → last_touched t a n ≡ some p → Last t a (a + n) p
unfolding last_touched
last_is t a zero p e = let z : ◌≡◌ {A = ℕ} 0 1 = cc in absurd (omega arith)
last_is t a (suc n) p e = by (is_touched t (a + n)) refl (last_is t a n p)
  where
    by : (b : Bool) → is_touched t (a + n) ≡ b → (last_touched t a n ≡ some p → Last t a (a + n) p) → Last t a (a + suc n) p
    by true q rec =
        let f : some (a + n) ≡ some p = rw q at e in
        let g : a + n ≡ p = cc in
        record { low = omega arith; high = omega arith; mark = rw (sym g) (ltb-true 0 (get_or t (a + n) 0) q); clear = λ z h l. absurd (omega arith) }
    by false q rec =
        let r = rec (rw q at e) in
        record {
          low = r.low;
          high = omega (arith, r.high);
          mark = r.mark;
          clear = λ z h l. clear_behind t (suc p) (a + n) r.clear
              (unmarked t (a + n) q) z (omega arith) l;
        }

-- and where none is found the stretch is clear
pub last-clear : (t : List ℕ) (a n : ℕ) → last_touched t a n ≡ none → Clear t a (a + n)
unfolding last_touched
last-clear t a zero e = λ z h l. absurd (omega arith)
last-clear t a (suc n) e = by (is_touched t (a + n)) refl (last-clear t a n)
  where
    by : (b : Bool) → is_touched t (a + n) ≡ b → (last_touched t a n ≡ none → Clear t a (a + n)) → Clear t a (a + suc n)
    by true q rec = let f : some (a + n) ≡ none = rw q at e in let z : ◌≡◌ {A = ℕ} 0 1 = cc in absurd (omega arith)
    by false q rec = λ z h l. clear_behind t a (a + n) (rec (rw q at e)) (unmarked t (a + n) q) z (omega arith) l

-- ---- the first touched point of a stretch
-- p is a touched point of the stretch from a up to b, and those in front of it are clear
pub record First (t : List ℕ) (a b p : ℕ) : Type 0 where
  pub low : a ≤ p
  pub high : p < b
  pub mark : 0 < get_or t p 0
  pub clear : Clear t a p

first_step : (t : List ℕ) (a n q : ℕ) → (a < q → first_touched t (suc a) n ≡ some q) → 0 < get_or t q 0 → (a < q → get_or t a 0 ≡ 0) → (a ≡ q) ⊎ (a < q)
    → first_touched t a (suc n) ≡ some q
unfolding first_touched
first_step t a n q rec m z (inl e) = rw (is-touched t a (subst (λ (k : ℕ). 0 < get_or t k 0) (sym e) m)) (ap some e)
first_step t a n q rec m z (inr h) = rw (not-touched t a (z h)) (rec h)

-- such a point is found
pub first_some : (t : List ℕ) (a n q : ℕ) → a ≤ q → q < a + n → 0 < get_or t q 0 → Clear t a q → first_touched t a n ≡ some q
first_some t a zero q l h m z = absurd (lt_irrefl q (omega arith))
first_some t a (suc n) q l h m z =
    first_step t a n q (λ g. first_some t (suc a) n q g (omega arith) m (λ k x y. z k x (omega arith))) m (λ g. z a g (omega arith)) (eq-or-lt_of_le l)

-- and none in a clear stretch
pub first-none : (t : List ℕ) (a n : ℕ) → Clear t a (a + n) → first_touched t a n ≡ none
unfolding first_touched
first-none t a zero z = refl
first-none t a (suc n) z = rw (not-touched t a (z a (omega arith) (omega arith))) (first-none t (suc a) n (λ k x y. z k (omega arith) (omega arith)))

-- what is found is such a point
pub first_is : (t : List ℕ) (a n p : ℕ) → first_touched t a n ≡ some p → First t a (a + n) p
unfolding first_touched
first_is t a zero p e = let z : ◌≡◌ {A = ℕ} 0 1 = cc in absurd (omega arith)
first_is t a (suc n) p e = by (is_touched t a) refl (first_is t (suc a) n p)
  where
    by : (b : Bool) → is_touched t a ≡ b → (first_touched t (suc a) n ≡ some p → First t (suc a) (suc a + n) p) → First t a (a + suc n) p
    by true q rec =
        let f : some a ≡ some p = rw q at e in
        let g : a ≡ p = cc in
        record { low = omega arith; high = omega arith; mark = rw (sym g) (ltb-true 0 (get_or t a 0) q); clear = λ z h l. absurd (omega arith) }
    by false q rec =
        let r = rec (rw q at e) in
        record { low = omega (arith, r.low); high = omega (arith, r.high); mark = r.mark; clear = clear-front t a p (unmarked t a q) r.clear }

-- and where none is found the stretch is clear
pub first-clear : (t : List ℕ) (a n : ℕ) → first_touched t a n ≡ none → Clear t a (a + n)
unfolding first_touched
first-clear t a zero e = λ z h l. absurd (omega arith)
first-clear t a (suc n) e = by (is_touched t a) refl (first-clear t (suc a) n)
  where
    by : (b : Bool) → is_touched t a ≡ b → (first_touched t (suc a) n ≡ none → Clear t (suc a) (suc a + n)) → Clear t a (a + suc n)
    by true q rec = let f : some a ≡ none = rw q at e in let z : ◌≡◌ {A = ℕ} 0 1 = cc in absurd (omega arith)
    by false q rec = λ z h l. clear-front t a (suc a + n) (unmarked t a q) (rec (rw q at e)) z (omega arith) l

-- ---- one search after another
-- what is found comes from the first search, or from the second where the first finds nothing
pub found-by : (x y : Option ℕ) (p : ℕ) → or_else x y ≡ some p → (x ≡ some p) ⊎ ((x ≡ none) × (y ≡ some p))
found-by none y p e = inr (refl, e)
found-by (some q) y p e = inl e

-- and where neither finds one, the second does not
pub not_found : (x y : Option ℕ) → or_else x y ≡ none → y ≡ none
not_found none y e = e
not_found (some q) y e = let z : ◌≡◌ {A = ℕ} 0 1 = cc in absurd (omega arith)
