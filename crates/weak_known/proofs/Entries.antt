-- What the walks of one contour find is what is known of its points.
use mathlib.Core.Path.{◌≡◌, refl, sym, ◌∙◌, ap}
use mathlib.Core.Bool.{Bool, true, false, cond}
use mathlib.Core.List.{List}
use mathlib.Core.Logic.{⊎_elim}
use mathlib.Core.Option.{Option, some, none}
use Prim.Native.Nat.{ℕ, suc, ◌+◌, ◌-◌, ◌≤◌, ◌<◌}
use native.Mathlib.Decide.{dec_lt}
use native.Mathlib.Nat.{le_refl, eq-or-lt_of_le}
use native.Mathlib.Omega.{arith}
use borrow.Author.Tests.{eq-eqb, ne_eqb}
use lib.ListN.{get_or}
use Rattle.weak_contour.specs.Contour.{Contour, is_touched, first_touched, last_touched, touched_before, touched_behind, refs, references}
use Rattle.weak_contour.proofs.Searches.{is-touched, not-touched, unmarked, Last, last_is, last-clear, First, first_is, first-clear}
use Rattle.weak_contour.proofs.References.{refs-none, refs-front, refs-behind, refs-same}
use Rattle.weak.specs.Weak.{contour_of}
use Rattle.weak_known.specs.Known.{
  touched,
  no_contour,
  one_or_none,
  two,
  by_two,
  free,
  known,
  before_of,
  behind_of,
  before_at,
  behind_at,
  touched_number,
  no_contour_number,
  one_or_none_number,
}
use Rattle.weak_known.specs.Walks.{contour, found_or, known_on, before_on, behind_on, plain_at, prior_at, later_at}

-- ---- the point in the whole outline
pub known-on : (t es : List ℕ) (i : ℕ) (k : Contour) → contour_of 0 es i ≡ some k → known t es i ≡ known_on t k i
unfolding known free known_on
known-on t es i k e = rw e

pub known_alone : (t es : List ℕ) (i : ℕ) → contour_of 0 es i ≡ none → known t es i ≡ cond (is_touched t i) touched no_contour
unfolding known free
known_alone t es i e = rw e

-- a point of no contour
pub plain-before : (t es : List ℕ) (i : ℕ) → contour_of 0 es i ≡ none → plain_at t no_contour_number i ≡ before_at t es i
unfolding plain_at before_at before_of
plain-before t es i e = by (is_touched t i) refl
  where
    by : (b : Bool) → is_touched t i ≡ b → plain_at t no_contour_number i ≡ before_at t es i
    by true q = rw (known_alone t es i e, q)
    by false q = rw (known_alone t es i e, q)

pub plain-behind : (t es : List ℕ) (i : ℕ) → contour_of 0 es i ≡ none → plain_at t no_contour_number i ≡ behind_at t es i
unfolding plain_at behind_at behind_of
plain-behind t es i e = by (is_touched t i) refl
  where
    by : (b : Bool) → is_touched t i ≡ b → plain_at t no_contour_number i ≡ behind_at t es i
    by true q = rw (known_alone t es i e, q)
    by false q = rw (known_alone t es i e, q)

-- an untouched point that is neither in front of a touched one nor it is behind it
beyond : (t : List ℕ) (i p : ℕ) → get_or t i 0 ≡ 0 → 0 < get_or t p 0 → (i < p → ⊥) → p < i
beyond t i p u m n = ⊎_elim (λ q. absurd (omega (arith, ap (λ (x : ℕ). get_or t x 0) q))) (λ h. h) (eq-or-lt_of_le (omega arith))

-- ---- one contour
module _ (t : List ℕ) (s e i : ℕ) (low : s ≤ i) (high : i < e) where
  -- no point is touched
  pub lone-none : get_or t i 0 ≡ 0 → first_touched t s (e - s) ≡ none → references t (contour s e) i ≡ none
  lone-none unmark q = refs-none t (contour s e) i low high (λ z h l. first-clear t s (e - s) q z (omega arith) l)

  -- one is
  pub lone-one : (p : ℕ) → get_or t i 0 ≡ 0 → first_touched t s (e - s) ≡ some p → last_touched t s (e - s) ≡ some p
      → references t (contour s e) i ≡ some (refs p p)
  lone-one p unmark a b = by (first_is t s (e - s) p a) (last_is t s (e - s) p b) (dec_lt i p)
    where
      by : First t s (s + (e - s)) p → Last t s (s + (e - s)) p → Dec (i < p) → references t (contour s e) i ≡ some (refs p p)
      by f l (yes h) =
          refs-front t (contour s e) i low high p p f.low (le_refl p) (omega (arith, f.high)) f.mark f.mark f.clear
          (λ z h m. l.clear z (omega arith) m) h
      by f l (no n) =
          refs-behind t (contour s e) i low high p p f.low (le_refl p) (omega (arith, f.high)) f.mark f.mark f.clear
          (λ z h m. l.clear z (omega arith) m)
          (beyond t i p unmark f.mark n)

  -- where both searches come to the same, it is one or none
  lone-two : get_or t i 0 ≡ 0 → found_or e (first_touched t s (e - s)) ≡ found_or e (last_touched t s (e - s)) → by_two (references t (contour s e) i) ≡ one_or_none
  unfolding found_or by_two
  lone-two unmark q = by (first_touched t s (e - s)) (last_touched t s (e - s)) refl refl q
    where
      by : (x y : Option ℕ) → first_touched t s (e - s) ≡ x → last_touched t s (e - s) ≡ y → found_or e x ≡ found_or e y
          → by_two (references t (contour s e) i) ≡ one_or_none
      by none y ex ey z = rw (lone-none unmark ex)
      by (some p) none ex ey z =
          absurd (omega (
            arith,
            (first_is t s (e - s) p ex).mark,
            last-clear t s (e - s) ey p (first_is t s (e - s) p ex).high
                (first_is t s (e - s) p ex).low,
          ))
      by (some p) (some u) ex ey z = rw (lone-one p unmark ex (ey ∙ ap some (sym z)), eq-eqb p p refl)

  pub lone-known : found_or e (first_touched t s (e - s)) ≡ found_or e (last_touched t s (e - s))
      → known_on t (contour s e) i ≡ cond (is_touched t i) touched one_or_none
  unfolding known_on
  lone-known q = by (is_touched t i) refl
    where
      by : (b : Bool) → is_touched t i ≡ b → known_on t (contour s e) i ≡ cond (is_touched t i) touched one_or_none
      by true m = rw m
      by false m = rw m (lone-two (unmarked t i m) q)

  pub lone-before : found_or e (first_touched t s (e - s)) ≡ found_or e (last_touched t s (e - s)) → plain_at t one_or_none_number i ≡ before_on t (contour s e) i
  unfolding plain_at before_on before_of
  lone-before q = by (is_touched t i) refl
    where
      by : (b : Bool) → is_touched t i ≡ b → plain_at t one_or_none_number i ≡ before_on t (contour s e) i
      by true m = rw (lone-known q, m)
      by false m = rw (lone-known q, m)

  pub lone-behind : found_or e (first_touched t s (e - s)) ≡ found_or e (last_touched t s (e - s)) → plain_at t one_or_none_number i ≡ behind_on t (contour s e) i
  unfolding plain_at behind_on behind_of
  lone-behind q = by (is_touched t i) refl
    where
      by : (b : Bool) → is_touched t i ≡ b → plain_at t one_or_none_number i ≡ behind_on t (contour s e) i
      by true m = rw (lone-known q, m)
      by false m = rw (lone-known q, m)

  -- where they differ, two points are touched: p is found from the front, u from the end
  module _ (p u : ℕ) (ep : first_touched t s (e - s) ≡ some p) (eu : last_touched t s (e - s) ≡ some u) (ne : p ≡ u → ⊥) where
    more-two : get_or t i 0 ≡ 0 → by_two (references t (contour s e) i)
        ≡ two (found_or u (last_touched t s (i - s))) (found_or p (first_touched t (suc i) (e - suc i)))
    unfolding by_two references touched_before touched_behind found_or
    more-two unmark = by (last_touched t s (i - s)) (first_touched t (suc i) (e - suc i)) refl refl
      where
        differ : (a b : ℕ) → references t (contour s e) i ≡ some (refs a b) → a ≡ b → ⊥
        differ a b r q =
            let f = first_is t s (e - s) p ep in
            let l = last_is t s (e - s) u eu in
            let r2 = r ∙ ap (λ (x : ℕ). some (refs a x)) (sym q) in
            ne (refs-same t (contour s e) i low high a unmark r2 p f.low (omega (arith, f.high)) f.mark
            ∙ sym (refs-same t (contour s e) i low high a unmark r2 u l.low (omega (arith, l.high)) l.mark))

        by : (x y : Option ℕ) → last_touched t s (i - s) ≡ x → first_touched t (suc i) (e - suc i) ≡ y
            → by_two (references t (contour s e) i) ≡ two (found_or u x) (found_or p y)
        by none none ex ey =
            let r : references t (contour s e) i ≡ some (refs u p) = rw (ex, ey, ep, eu) in
            rw (ex, ey, ep, eu, ne_eqb u p (differ u p r))
        by none (some b) ex ey =
            let r : references t (contour s e) i ≡ some (refs u b) = rw (ex, ey, eu) in
            rw (ex, ey, eu, ne_eqb u b (differ u b r))
        by (some a) none ex ey =
            let r : references t (contour s e) i ≡ some (refs a p) = rw (ex, ey, ep) in
            rw (ex, ey, ep, ne_eqb a p (differ a p r))
        by (some a) (some b) ex ey =
            let r : references t (contour s e) i ≡ some (refs a b) = rw (ex, ey) in
            rw (ex, ey, ne_eqb a b (differ a b r))

    pub more-before : prior_at t s u i ≡ before_on t (contour s e) i
    unfolding prior_at before_on known_on before_of
    more-before = by (is_touched t i) refl
      where
        by : (b : Bool) → is_touched t i ≡ b → prior_at t s u i ≡ before_on t (contour s e) i
        by true m = rw m
        by false m = rw (m, more-two (unmarked t i m))

    pub more-behind : later_at t e p i ≡ behind_on t (contour s e) i
    unfolding later_at behind_on known_on behind_of
    more-behind = by (is_touched t i) refl
      where
        by : (b : Bool) → is_touched t i ≡ b → later_at t e p i ≡ behind_on t (contour s e) i
        by true m = rw m
        by false m = rw (m, more-two (unmarked t i m))

-- the searches that differ have both found one
pub both_found : (t : List ℕ) (s e : ℕ) → (found_or e (first_touched t s (e - s)) ≡ found_or e (last_touched t s (e - s)) → ⊥)
    → (first_touched t s (e - s) ≡ some (found_or e (first_touched t s (e - s)))) × (last_touched t s (e - s) ≡ some (found_or e (last_touched t s (e - s))))
unfolding found_or
both_found t s e ne = by (first_touched t s (e - s)) (last_touched t s (e - s)) refl refl ne
  where
    by : (x y : Option ℕ) → first_touched t s (e - s) ≡ x → last_touched t s (e - s) ≡ y → (found_or e x ≡ found_or e y → ⊥)
        → (x ≡ some (found_or e x)) × (y ≡ some (found_or e y))
    by none none ex ey n = absurd (n refl)
    by none (some u) ex ey n =
        absurd (omega (arith, (last_is t s (e - s) u ey).mark, first-clear t s (e - s) ex u (last_is t s (e - s) u ey).high (last_is t s (e - s) u ey).low))
    by (some p) none ex ey n =
        absurd (omega (arith, (first_is t s (e - s) p ex).mark, last-clear t s (e - s) ey p (first_is t s (e - s) p ex).high (first_is t s (e - s) p ex).low))
    by (some p) (some u) ex ey n = (refl, refl)

-- ---- one step of a walk
-- forwards: the number of the point behind i, by that of i
pub prior-next : (t : List ℕ) (s last i : ℕ) → s ≤ i → prior_at t s last (suc i)
    ≡ cond (is_touched t (suc i)) touched_number (cond (is_touched t i) i (prior_at t s last i))
unfolding prior_at last_touched found_or
prior-next t s last i h =
    let a : suc i - s ≡ suc (i - s) = omega arith in
    let b : s + (i - s) ≡ i = omega arith in
    by a b (is_touched t i) refl
  where
    by : suc i - s ≡ suc (i - s) → s + (i - s) ≡ i → (b : Bool) → is_touched t i ≡ b
        → prior_at t s last (suc i) ≡ cond (is_touched t (suc i)) touched_number (cond (is_touched t i) i (prior_at t s last i))
    by a b true q = rw (a, b, q)
    by a b false q = rw (a, b, q)

pub prior-first : (t : List ℕ) (s last : ℕ) → prior_at t s last s ≡ cond (is_touched t s) touched_number last
unfolding prior_at last_touched found_or
prior-first t s last = let a : s - s ≡ 0 = omega arith in rw a

-- backwards: the number of the point i, by that of the one behind it
pub later-next : (t : List ℕ) (e first i : ℕ) → suc i < e → later_at t e first i
    ≡ cond (is_touched t i) touched_number (cond (is_touched t (suc i)) (suc i) (later_at t e first (suc i)))
unfolding later_at first_touched found_or
later-next t e first i h =
    let a : e - suc i ≡ suc (e - suc (suc i)) = omega arith in
    by a (is_touched t (suc i)) refl
  where
    by : e - suc i ≡ suc (e - suc (suc i)) → (b : Bool) → is_touched t (suc i) ≡ b
        → later_at t e first i ≡ cond (is_touched t i) touched_number (cond (is_touched t (suc i)) (suc i) (later_at t e first (suc i)))
    by a true q = rw (a, q)
    by a false q = rw (a, q)

pub later_last : (t : List ℕ) (e first i : ℕ) → suc i ≡ e → later_at t e first i ≡ cond (is_touched t i) touched_number first
unfolding later_at first_touched found_or
later_last t e first i h = let a : e - suc i ≡ 0 = omega arith in rw a

-- ---- one step of a search, from i on up to e: a touched point, an untouched one, the end
pub first-here : (t : List ℕ) (e i : ℕ) → i < e → 0 < get_or t i 0 → found_or e (first_touched t i (e - i)) ≡ i
unfolding found_or first_touched
first-here t e i h m = let a : e - i ≡ suc (e - suc i) = omega arith in rw (a, is-touched t i m)

pub first_on : (t : List ℕ) (e i : ℕ) → i < e → get_or t i 0 ≡ 0 → found_or e (first_touched t i (e - i)) ≡ found_or e (first_touched t (i + 1) (e - (i + 1)))
unfolding found_or first_touched
first_on t e i h m =
    let a : e - i ≡ suc (e - suc i) = omega arith in
    let b : i + 1 ≡ suc i = omega arith in
    rw (a, not-touched t i m, b)

pub first-end : (t : List ℕ) (e i : ℕ) → e ≤ i → found_or e (first_touched t i (e - i)) ≡ e
unfolding found_or first_touched
first-end t e i h = let a : e - i ≡ 0 = omega arith in rw a

-- and from the end, with j the point in front of i
pub last-here : (t : List ℕ) (e s i : ℕ) → s < i → 0 < i → 0 < get_or t (i - 1) 0 → found_or e (last_touched t s (i - s)) ≡ i - 1
unfolding found_or last_touched
last-here t e s i h o m =
    let a : i - s ≡ suc (i - 1 - s) = omega arith in
    let b : s + (i - 1 - s) ≡ i - 1 = omega arith in
    rw (a, b, is-touched t (i - 1) m)

pub last_on : (t : List ℕ) (e s i : ℕ) → s < i → 0 < i → get_or t (i - 1) 0 ≡ 0 → found_or e (last_touched t s (i - s)) ≡ found_or e (last_touched t s (i - 1 - s))
unfolding found_or last_touched
last_on t e s i h o m =
    let a : i - s ≡ suc (i - 1 - s) = omega arith in
    let b : s + (i - 1 - s) ≡ i - 1 = omega arith in
    rw (a, b, not-touched t (i - 1) m)

pub last_end : (t : List ℕ) (e s i : ℕ) → i ≤ s → found_or e (last_touched t s (i - s)) ≡ e
unfolding found_or last_touched
last_end t e s i h = let a : i - s ≡ 0 = omega arith in rw a
