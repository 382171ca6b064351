-- The match of one contour: the neighbours that fit and what its ends show, or the weights of its points, decide whether the entries are what is known.
use mathlib.Core.Path.{◌≡◌, refl, sym, ◌∙◌, ap, subst}
use mathlib.Core.Bool.{Bool, true, false, cond, ◌&&◌}
use mathlib.Core.List.{List}
use mathlib.Core.Option.{Option, some, none}
use Prim.Native.Nat.{ℕ, zero, suc, ◌+◌, ◌-◌, ◌*◌, ◌≤◌, ◌<◌}
use native.Mathlib.Decide.{dec_lt, ℕ_discrete}
use native.Mathlib.Omega.{arith}
use borrow.Author.Tests.{leb-true, ltb-true, eqb-true, le-leb, lt-leb, lt-ltb, le-ltb, eq-eqb, ne_eqb}
use lib.Dec.{leb, ltb, eqb}
use lib.ListN.{get_or}
use Rattle.refusals.proofs.Tests.{and_first, and_second}
use Rattle.weak_contour.specs.Limits.{most_points}
use Rattle.weak_contour.specs.Contour.{is_touched, first_touched, last_touched}
use Rattle.weak_contour.proofs.Searches.{is-touched, not-touched, marked, first_is, last_is, first-clear, last-clear}
use Rattle.weak_known.specs.Known.{same_as, touched_number, one_or_none_number}
use Rattle.weak_known.specs.Walks.{
  contour,
  found_or,
  before_on,
  behind_on,
  plain_at,
  prior_at,
  later_at,
  said_on,
  shows,
  first_shown,
  last_shown,
  show_two,
  seam_holds,
  fits,
  fits_at,
  all_from,
  weight,
  weight_at,
  sum_from,
  Says,
  TwoOn,
  LoneOn,
}
use Rattle.weak_known.proofs.Comparing.{and-true, same_at}
use Rattle.weak_known.proofs.Remembering.{same-put}
use Rattle.weak_known.proofs.Entries.{lone-before, lone-behind, more-before, more-behind, both_found, prior-next, prior-first, later-next, later_last}

-- ---- Bools
both_ways : (x y : Bool) → (x ≡ true → y ≡ true) → (y ≡ true → x ≡ true) → x ≡ y
both_ways true true f g = refl
both_ways true false f g = sym (f refl)
both_ways false true f g = g refl
both_ways false false f g = refl

never : false ≡ true → ⊥
never e = absurd (let n : ◌≡◌ {A = ℕ} 0 1 = cc in omega arith)

-- ---- tests of many, and sums
all-at : (f : ℕ → Bool) (i n : ℕ) → all_from f i n ≡ true → (j : ℕ) → i ≤ j → j < i + n → f j ≡ true
unfolding all_from
all-at f i zero e j a b = absurd (omega arith)
all-at f i (suc n) e j a b = by (ℕ_discrete j i) (λ (m : suc i ≤ j). all-at f (suc i) n (and_second (f i) (all_from f (suc i) n) e) j m (omega arith))
  where
    by : Dec (j ≡ i) → (suc i ≤ j → f j ≡ true) → f j ≡ true
    by (yes q) rec = ap f q ∙ and_first (f i) (all_from f (suc i) n) e
    by (no q) rec = rec (omega arith)

all_of : (f : ℕ → Bool) (i n : ℕ) → ((j : ℕ) → i ≤ j → j < i + n → f j ≡ true) → all_from f i n ≡ true
unfolding all_from
all_of f i zero h = refl
all_of f i (suc n) h = rw (h i (omega arith) (omega arith)) (all_of f (suc i) n (λ j a b. h j (omega arith) (omega arith)))

sum-none : (f : ℕ → ℕ) (i n : ℕ) → ((j : ℕ) → i ≤ j → j < i + n → f j ≡ 0) → sum_from f i n ≡ 0
unfolding sum_from
sum-none f i zero h = refl
sum-none f i (suc n) h = let a = h i (omega arith) (omega arith) in let b = sum-none f (suc i) n (λ j a b. h j (omega arith) (omega arith)) in omega arith

sum_one : (f : ℕ → ℕ) (i n j : ℕ) → i ≤ j → j < i + n → f j ≤ sum_from f i n
unfolding sum_from
sum_one f i zero j a b = absurd (omega arith)
sum_one f i (suc n) j a b = by (ℕ_discrete j i) (λ (m : suc i ≤ j). sum_one f (suc i) n j m (omega arith))
  where
    by : Dec (j ≡ i) → (suc i ≤ j → f j ≤ sum_from f (suc i) n) → f j ≤ f i + sum_from f (suc i) n
    by (yes q) rec = omega (arith, ap f q)
    by (no q) rec = omega (arith, rec (omega arith))

sum-two : (f : ℕ → ℕ) (i n j k : ℕ) → i ≤ j → j < k → k < i + n → f j + f k ≤ sum_from f i n
unfolding sum_from
sum-two f i zero j k a b c = absurd (omega arith)
sum-two f i (suc n) j k a b c = by (ℕ_discrete j i) (λ (m : suc i ≤ j). sum-two f (suc i) n j k m b (omega arith))
  where
    by : Dec (j ≡ i) → (suc i ≤ j → f j + f k ≤ sum_from f (suc i) n) → f j + f k ≤ f i + sum_from f (suc i) n
    by (yes q) rec = omega (arith, ap f q, sum_one f (suc i) n k (omega arith) (omega arith))
    by (no q) rec = omega (arith, rec (omega arith))

sum-few : (f : ℕ → ℕ) (i n : ℕ) → ((j : ℕ) → i ≤ j → j < i + n → f j ≤ 1) → ((j k : ℕ) → i ≤ j → j < k → k < i + n → f j + f k ≤ 1) → sum_from f i n ≤ 1
unfolding sum_from
sum-few f i zero h g = omega arith
sum-few f i (suc n) h g =
    by (ℕ_discrete (f i) 0) (sum-few f (suc i) n (λ j a b. h j (omega arith) (omega arith)) (λ j k a b c. g j k (omega arith) b (omega arith)))
  where
    by : Dec (f i ≡ 0) → sum_from f (suc i) n ≤ 1 → f i + sum_from f (suc i) n ≤ 1
    by (yes q) rest = omega arith
    by (no q) rest =
        let a = h i (omega arith) (omega arith) in
        let b = sum-none f (suc i) n (λ j a b. let z = g i j (omega arith) (omega arith) (omega arith) in omega arith) in
        omega arith

-- a weight is at most 2, at least 1 of a touched point, and below 2 where both entries are right
weight-most : (m p u : ℕ) → weight m p u ≤ 2
unfolding weight
weight-most m p u = by (eqb p (cond (ltb 0 m) touched_number one_or_none_number) && eqb u (cond (ltb 0 m) touched_number one_or_none_number)) (ltb 0 m)
  where
    by : (x y : Bool) → cond x (cond y 1 0) 2 ≤ 2
    by true true = omega arith
    by true false = omega arith
    by false y = omega arith

weight-touched : (m p u : ℕ) → ltb 0 m ≡ true → 1 ≤ weight m p u
unfolding weight
weight-touched m p u q = rw q (by (eqb p touched_number && eqb u touched_number))
  where
    by : (x : Bool) → 1 ≤ cond x 1 2
    by true = omega arith
    by false = omega arith

weight-right : (m p u v : ℕ) → v ≡ cond (ltb 0 m) touched_number one_or_none_number → p ≡ v → u ≡ v → weight m p u ≡ cond (ltb 0 m) 1 0
unfolding weight
weight-right m p u v q a c =
    rw (eq-eqb p (cond (ltb 0 m) touched_number one_or_none_number) (a ∙ q), eq-eqb u (cond (ltb 0 m) touched_number one_or_none_number) (c ∙ q))

weight-below : (m p u : ℕ) → weight m p u < 2 → (p ≡ cond (ltb 0 m) touched_number one_or_none_number) × (u ≡ cond (ltb 0 m) touched_number one_or_none_number)
unfolding weight
weight-below m p u w = by (eqb p (cond (ltb 0 m) touched_number one_or_none_number)) (eqb u (cond (ltb 0 m) touched_number one_or_none_number)) refl refl w
  where
    by : (x y : Bool) → eqb p (cond (ltb 0 m) touched_number one_or_none_number) ≡ x → eqb u (cond (ltb 0 m) touched_number one_or_none_number) ≡ y
        → cond (x && y) (cond (ltb 0 m) 1 0) 2 < 2
        → (p ≡ cond (ltb 0 m) touched_number one_or_none_number) × (u ≡ cond (ltb 0 m) touched_number one_or_none_number)
    by true true a c w = (eqb-true p (cond (ltb 0 m) touched_number one_or_none_number) a, eqb-true u (cond (ltb 0 m) touched_number one_or_none_number) c)
    by true false a c w = absurd (omega arith)
    by false y a c w = absurd (omega arith)

pub sum-most : (f : ℕ → ℕ) (i n : ℕ) → ((j : ℕ) → f j ≤ 2) → sum_from f i n ≤ 2 * n
unfolding sum_from
sum-most f i zero h = omega arith
sum-most f i (suc n) h = omega (arith, h i, sum-most f (suc i) n h)

-- ---- what both lists say, at every point
said-says : (t b h : List ℕ) (s e : ℕ) → said_on t b h s e ≡ true → Says t b h s e
said-says t b h s e q =
    let x = same_at b (before_on t (contour s e)) s (e - s)
    (and_first (same_as b (before_on t (contour s e)) s (e - s)) (same_as h (behind_on t (contour s e)) s (e - s)) q) in
    let y = same_at h (behind_on t (contour s e)) s (e - s)
    (and_second (same_as b (before_on t (contour s e)) s (e - s)) (same_as h (behind_on t (contour s e)) s (e - s)) q) in
    record { before = λ i u v. x i u (omega arith); behind = λ i u v. y i u (omega arith) }

says-said : (t b h : List ℕ) (s e : ℕ) → Says t b h s e → said_on t b h s e ≡ true
says-said t b h s e w =
    rw (
      same-put (before_on t (contour s e)) b s (e - s) (λ i u v. w.before i u (omega arith)),
      same-put (behind_on t (contour s e)) h s (e - s)
          (λ i u v. w.behind i u (omega arith)),
    )

-- ---- what an entry shows
shows-touched : (v i : ℕ) → v ≡ touched_number → shows v i ≡ i
unfolding shows
shows-touched v i q = rw (eq-eqb v touched_number q)

shows-other : (v i : ℕ) → v < touched_number → shows v i ≡ v
unfolding shows
shows-other v i q = rw (ne_eqb v touched_number (λ z. absurd (omega arith)))

module _ (t : List ℕ) (s e : ℕ) (lo : s < e) (hi : e ≤ most_points) where
  -- ---- entries that are the touched points in front
  module _ (last : ℕ) (ll : last < e) where
    prior-low : (i : ℕ) → s ≤ i → i < e → is_touched t i ≡ false → prior_at t s last i < touched_number
    unfolding prior_at found_or
    prior-low i a c m = by (last_touched t s (i - s)) refl
      where
        by : (x : Option ℕ) → last_touched t s (i - s) ≡ x → prior_at t s last i < touched_number
        by none q = rw (m, q) (omega arith)
        by (some p) q = let w = (last_is t s (i - s) p q).high in rw (m, q) (omega arith)

    prior-touched : (i : ℕ) → is_touched t i ≡ true → prior_at t s last i ≡ touched_number
    unfolding prior_at
    prior-touched i m = rw m

    prior-shows : (i v : ℕ) → s ≤ i → i < e → v ≡ prior_at t s last i → shows v i ≡ cond (is_touched t i) i (prior_at t s last i)
    prior-shows i v a c q = by (is_touched t i) refl
      where
        by : (x : Bool) → is_touched t i ≡ x → shows v i ≡ cond (is_touched t i) i (prior_at t s last i)
        by true m = rw m (shows-touched v i (q ∙ prior-touched i m))
        by false m = rw m (shows-other v i (omega (arith, q, prior-low i a c m)) ∙ q)

    prior-mark : (i v : ℕ) → s ≤ i → i < e → v ≡ prior_at t s last i → eqb v touched_number ≡ is_touched t i
    prior-mark i v a c q = by (is_touched t i) refl
      where
        by : (x : Bool) → is_touched t i ≡ x → eqb v touched_number ≡ is_touched t i
        by true m = eq-eqb v touched_number (q ∙ prior-touched i m) ∙ sym m
        by false m = ne_eqb v touched_number (λ z. absurd (omega (arith, q, prior-low i a c m))) ∙ sym m

    -- the last one shown is the last of all, where there is one
    prior-end : (v : ℕ) → v ≡ prior_at t s last (e - 1) → shows v (e - 1) ≡ found_or last (last_touched t s (e - s))
    unfolding prior_at found_or last_touched
    prior-end v q = prior-shows (e - 1) v (omega arith) (omega arith) q ∙ by (is_touched t (e - 1)) refl
      where
        by : (x : Bool) → is_touched t (e - 1) ≡ x → cond (is_touched t (e - 1)) (e - 1) (prior_at t s last (e - 1)) ≡ found_or last (last_touched t s (e - s))
        by true m = let a : e - s ≡ suc (e - 1 - s) = omega arith in let c : s + (e - 1 - s) ≡ e - 1 = omega arith in rw (a, c, m)
        by false m = let a : e - s ≡ suc (e - 1 - s) = omega arith in let c : s + (e - 1 - s) ≡ e - 1 = omega arith in rw (a, c, m)

    -- step by step from s on
    module _ (b : List ℕ) (z : get_or b s 0 ≡ cond (is_touched t s) touched_number last)
        (f : (j : ℕ) → s ≤ j → suc j < e → get_or b (suc j) 0 ≡ cond (is_touched t (suc j)) touched_number (shows (get_or b j 0) j)) where
      prior-all : (n i : ℕ) → i ≡ s + n → i < e → get_or b i 0 ≡ prior_at t s last i
      prior-all zero i q g = let a : s ≡ i = omega arith in subst (λ (x : ℕ). get_or b x 0 ≡ prior_at t s last x) a (z ∙ sym (prior-first t s last))
      prior-all (suc n) i q g =
          let j = i - 1 in
          let a : suc j ≡ i = omega arith in
          let k = prior-all n j (omega arith) (omega arith) in
          subst (λ (x : ℕ). get_or b x 0 ≡ prior_at t s last x) a
          (f j (omega arith) (omega arith) ∙ ap (cond (is_touched t (suc j)) touched_number) (prior-shows j (get_or b j 0) (omega arith) (omega arith) k)
          ∙ sym (prior-next t s last j (omega arith)))

      prior-is : (i : ℕ) → s ≤ i → i < e → get_or b i 0 ≡ prior_at t s last i
      prior-is i a c = prior-all (i - s) i (omega arith) c

  -- ---- and those behind
  module _ (first : ℕ) (ff : first < e) where
    later-low : (i : ℕ) → i < e → is_touched t i ≡ false → later_at t e first i < touched_number
    unfolding later_at found_or
    later-low i c m = by (first_touched t (suc i) (e - suc i)) refl
      where
        by : (x : Option ℕ) → first_touched t (suc i) (e - suc i) ≡ x → later_at t e first i < touched_number
        by none q = rw (m, q) (omega arith)
        by (some p) q = let w = (first_is t (suc i) (e - suc i) p q).high in rw (m, q) (omega arith)

    later-touched : (i : ℕ) → is_touched t i ≡ true → later_at t e first i ≡ touched_number
    unfolding later_at
    later-touched i m = rw m

    later-shows : (i v : ℕ) → i < e → v ≡ later_at t e first i → shows v i ≡ cond (is_touched t i) i (later_at t e first i)
    later-shows i v c q = by (is_touched t i) refl
      where
        by : (x : Bool) → is_touched t i ≡ x → shows v i ≡ cond (is_touched t i) i (later_at t e first i)
        by true m = rw m (shows-touched v i (q ∙ later-touched i m))
        by false m = rw m (shows-other v i (omega (arith, q, later-low i c m)) ∙ q)

    -- the first one shown is the first of all, where there is one
    later-start : (v : ℕ) → v ≡ later_at t e first s → shows v s ≡ found_or first (first_touched t s (e - s))
    unfolding later_at found_or first_touched
    later-start v q = later-shows s v lo q ∙ by (is_touched t s) refl
      where
        by : (x : Bool) → is_touched t s ≡ x → cond (is_touched t s) s (later_at t e first s) ≡ found_or first (first_touched t s (e - s))
        by true m = let a : e - s ≡ suc (e - suc s) = omega arith in rw (a, m)
        by false m = let a : e - s ≡ suc (e - suc s) = omega arith in rw (a, m)

    -- step by step from the end
    module _ (h : List ℕ) (z : get_or h (e - 1) 0 ≡ cond (is_touched t (e - 1)) touched_number first)
        (f : (j : ℕ) → s ≤ j → suc j < e → get_or h j 0 ≡ cond (is_touched t j) touched_number (shows (get_or h (suc j) 0) (suc j))) where
      later-all : (n i : ℕ) → s ≤ i → suc (i + n) ≡ e → get_or h i 0 ≡ later_at t e first i
      later-all zero i g q =
          let a : e - 1 ≡ i = omega arith in
          subst (λ (x : ℕ). get_or h x 0 ≡ cond (is_touched t x) touched_number first) a z ∙ sym (later_last t e first i (omega arith))
      later-all (suc n) i g q =
          let k = later-all n (suc i) (omega arith) (omega arith) in
          f i g (omega arith) ∙ ap (cond (is_touched t i) touched_number) (later-shows (suc i) (get_or h (suc i) 0) (omega arith) k)
          ∙ sym (later-next t e first i (omega arith))

      later-is : (i : ℕ) → s ≤ i → i < e → get_or h i 0 ≡ later_at t e first i
      later-is i a c = later-all (e - suc i) i a (omega arith)

  -- ---- what is found, where a point is touched
  first_found : (p q : ℕ) → s ≤ q → q < e → 0 < get_or t q 0 → p ≡ found_or p (first_touched t s (e - s)) → first_touched t s (e - s) ≡ some p
  unfolding found_or
  first_found p q a c m w = by (first_touched t s (e - s)) refl w
    where
      by : (x : Option ℕ) → first_touched t s (e - s) ≡ x → p ≡ found_or p x → x ≡ some p
      by none z v = absurd (omega (arith, first-clear t s (e - s) z q (omega arith) a))
      by (some u) z v = ap some (sym v)

  last_found : (p q : ℕ) → s ≤ q → q < e → 0 < get_or t q 0 → p ≡ found_or p (last_touched t s (e - s)) → last_touched t s (e - s) ≡ some p
  unfolding found_or
  last_found p q a c m w = by (last_touched t s (e - s)) refl w
    where
      by : (x : Option ℕ) → last_touched t s (e - s) ≡ x → p ≡ found_or p x → x ≡ some p
      by none z v = absurd (omega (arith, last-clear t s (e - s) z q (omega arith) a))
      by (some u) z v = ap some (sym v)

  module _ (b h : List ℕ) where
    -- ---- the ends show two points
    record Two : Type 0 where
      low : s ≤ first_shown h s
      less : first_shown h s < last_shown b e
      high : last_shown b e < e

    two_is : show_two b h s e ≡ true → Two
    unfolding show_two
    two_is q =
        let x = leb s (first_shown h s) in
        let y = ltb (first_shown h s) (last_shown b e) in
        let z = ltb (last_shown b e) e in
        let r = and_second x (y && z) q in
        record {
          low = leb-true s (first_shown h s) (and_first x (y && z) q);
          less = ltb-true (first_shown h s) (last_shown b e) (and_first y z r);
          high =
              ltb-true (last_shown b e) e (and_second y z r);
        }

    -- all that fits is known
    module _ (w : Two) (seam : seam_holds t b h s e ≡ true) (all : all_from (fits_at t b h) s (e - suc s) ≡ true) where
      abbrev first : ℕ
      first = first_shown h s

      abbrev last : ℕ
      last = last_shown b e

      abbrev front : Bool
      front = eqb (get_or b s 0) (cond (is_touched t s) touched_number last)

      abbrev rear : Bool
      rear = eqb (get_or h (e - 1) 0) (cond (is_touched t (e - 1)) touched_number first)

      is-first : 0 < get_or t first 0
      unfolding seam_holds
      is-first = marked t first (and_first (is_touched t first) (front && rear) seam)

      front-is : get_or b s 0 ≡ cond (is_touched t s) touched_number last
      unfolding seam_holds
      front-is = eqb-true (get_or b s 0) (cond (is_touched t s) touched_number last) (and_first front rear (and_second (is_touched t first) (front && rear) seam))

      rear-is : get_or h (e - 1) 0 ≡ cond (is_touched t (e - 1)) touched_number first
      unfolding seam_holds
      rear-is =
          eqb-true (get_or h (e - 1) 0) (cond (is_touched t (e - 1)) touched_number first)
          (and_second front rear (and_second (is_touched t first) (front && rear) seam))

      -- the neighbours j and suc j
      module _ (j : ℕ) (a : s ≤ j) (c : suc j < e) where
        abbrev one : Bool
        one = eqb (get_or b (suc j) 0) (cond (is_touched t (suc j)) touched_number (shows (get_or b j 0) j))

        abbrev other : Bool
        other = eqb (get_or h j 0) (cond (eqb (get_or b j 0) touched_number) touched_number (shows (get_or h (suc j) 0) (suc j)))

        both : (one && other) ≡ true
        unfolding fits_at fits
        both = all-at (fits_at t b h) s (e - suc s) all j a (omega arith)

        before-next : get_or b (suc j) 0 ≡ cond (is_touched t (suc j)) touched_number (shows (get_or b j 0) j)
        before-next = eqb-true (get_or b (suc j) 0) (cond (is_touched t (suc j)) touched_number (shows (get_or b j 0) j)) (and_first one other both)

        behind-next : get_or h j 0 ≡ cond (eqb (get_or b j 0) touched_number) touched_number (shows (get_or h (suc j) 0) (suc j))
        behind-next = eqb-true (get_or h j 0) (cond (eqb (get_or b j 0) touched_number) touched_number (shows (get_or h (suc j) 0) (suc j))) (and_second one other both)

      last-in : last < e
      last-in = w.high

      first-in : first < e
      first-in = let l = w.less in let g = w.high in omega arith

      before-is : (i : ℕ) → s ≤ i → i < e → get_or b i 0 ≡ prior_at t s last i
      before-is = prior-is last last-in b front-is before-next

      behind-is : (i : ℕ) → s ≤ i → i < e → get_or h i 0 ≡ later_at t e first i
      behind-is =
          later-is first first-in h rear-is
          (λ j a c. behind-next j a c ∙ ap (λ (x : Bool). cond x touched_number (shows (get_or h (suc j) 0) (suc j)))
          (prior-mark last last-in j (get_or b j 0) a (omega arith) (before-is j a (omega arith))))

      first-is-first : first_touched t s (e - s) ≡ some first
      first-is-first = let l = w.low in first_found first first l first-in is-first (later-start first first-in (get_or h s 0) (behind-is s (omega arith) lo))

      last-is-last : last_touched t s (e - s) ≡ some last
      last-is-last =
          let l = w.low in
          last_found last first l first-in is-first (prior-end last last-in (get_or b (e - 1) 0) (before-is (e - 1) (omega arith) (omega arith)))

      differ : first ≡ last → ⊥
      differ q = let l = w.less in absurd (omega arith)

      fitting-says : Says t b h s e
      fitting-says = record {
        before = λ i a c. before-is i a c ∙ more-before t s e i a c first last first-is-first last-is-last differ;
        behind = λ i a c. behind-is i a c ∙ more-behind t s e i a c first last first-is-first last-is-last differ;
      }

    -- ---- the other way round: lists that say what is known of a contour with two touched points, f and p
    module _ (says : Says t b h s e) (f p : ℕ) (ef : first_touched t s (e - s) ≡ some f) (ep : last_touched t s (e - s) ≡ some p) (ne : f ≡ p → ⊥) where
      f-in : f < e
      f-in = let w = (first_is t s (e - s) f ef).high in omega arith

      p-in : p < e
      p-in = let w = (last_is t s (e - s) p ep).high in omega arith

      f-low : s ≤ f
      f-low = (first_is t s (e - s) f ef).low

      f-less : f < p
      f-less = by (dec_lt p f)
        where
          by : Dec (p < f) → f < p
          by (yes q) = absurd (omega (arith, (last_is t s (e - s) p ep).mark, (first_is t s (e - s) f ef).clear p q (last_is t s (e - s) p ep).low))
          by (no q) = omega (arith, ne)

      said-before : (i : ℕ) → s ≤ i → i < e → get_or b i 0 ≡ prior_at t s p i
      said-before i a c = says.before i a c ∙ sym (more-before t s e i a c f p ef ep ne)

      said-behind : (i : ℕ) → s ≤ i → i < e → get_or h i 0 ≡ later_at t e f i
      said-behind i a c = says.behind i a c ∙ sym (more-behind t s e i a c f p ef ep ne)

      shown-first : first_shown h s ≡ f
      unfolding found_or
      shown-first = later-start f f-in (get_or h s 0) (said-behind s (omega arith) lo) ∙ ap (found_or f) ef

      shown-last : last_shown b e ≡ p
      unfolding found_or
      shown-last = prior-end p p-in (get_or b (e - 1) 0) (said-before (e - 1) (omega arith) (omega arith)) ∙ ap (found_or p) ep

      shows-two : show_two b h s e ≡ true
      unfolding show_two
      shows-two = rw (shown-first, shown-last, le-leb s f f-low, lt-ltb f p f-less, lt-ltb p e p-in)

      seam-two : seam_holds t b h s e ≡ true
      unfolding seam_holds
      seam-two =
          rw (
            shown-first,
            shown-last,
            is-touched t f (first_is t s (e - s) f ef).mark,
            eq-eqb (get_or b s 0) (cond (is_touched t s) touched_number p) (said-before s (omega arith) lo ∙ prior-first t s p),
            eq-eqb (get_or h (e - 1) 0) (cond (is_touched t (e - 1)) touched_number f)
                (said-behind (e - 1) (omega arith) (omega arith) ∙ later_last t e f (e - 1) (omega arith)),
          )

      fits-two : (j : ℕ) → s ≤ j → suc j < e → fits_at t b h j ≡ true
      unfolding fits_at fits
      fits-two j a c =
          let x : get_or b (suc j) 0 ≡ cond (is_touched t (suc j)) touched_number (shows (get_or b j 0) j) =
          said-before (suc j) (omega arith) c ∙ prior-next t s p j a
          ∙ ap (cond (is_touched t (suc j)) touched_number) (sym (prior-shows p p-in j (get_or b j 0) a (omega arith) (said-before j a (omega arith)))) in
          let y : get_or h j 0 ≡ cond (eqb (get_or b j 0) touched_number) touched_number (shows (get_or h (suc j) 0) (suc j)) =
          said-behind j a (omega arith) ∙ later-next t e f j c
          ∙ ap (cond (is_touched t j) touched_number) (sym (later-shows f f-in (suc j) (get_or h (suc j) 0) c (said-behind (suc j) (omega arith) c)))
          ∙ ap (λ (z : Bool). cond z touched_number (shows (get_or h (suc j) 0) (suc j)))
          (sym (prior-mark p p-in j (get_or b j 0) a (omega arith) (said-before j a (omega arith)))) in
          rw (
            eq-eqb (get_or b (suc j) 0) (cond (is_touched t (suc j)) touched_number (shows (get_or b j 0) j)) x,
            eq-eqb (get_or h j 0) (cond (eqb (get_or b j 0) touched_number) touched_number (shows (get_or h (suc j) 0) (suc j))) y,
          )

      all_two : all_from (fits_at t b h) s (e - suc s) ≡ true
      all_two = all_of (fits_at t b h) s (e - suc s) (λ j a c. fits-two j a (omega arith))

    -- ---- a contour with one touched point or none: both searches come to the same
    -- two touched points of it are one
    lone-only : LoneOn t s e → (i j : ℕ) → s ≤ i → i < e → 0 < get_or t i 0 → s ≤ j → j < e → 0 < get_or t j 0 → i ≡ j
    unfolding found_or
    lone-only q i j a c m x y z = by (first_touched t s (e - s)) (last_touched t s (e - s)) refl refl q
      where
        by : (u v : Option ℕ) → first_touched t s (e - s) ≡ u → last_touched t s (e - s) ≡ v → found_or e u ≡ found_or e v → i ≡ j
        by none v eu ev w = absurd (omega (arith, first-clear t s (e - s) eu i (omega arith) a))
        by (some f) none eu ev w = absurd (omega (arith, last-clear t s (e - s) ev i (omega arith) a))
        by (some f) (some p) eu ev w = at_one i a c m ∙ sym (at_one j x y z)
          where
            at_one : (k : ℕ) → s ≤ k → k < e → 0 < get_or t k 0 → k ≡ f
            at_one k g l n = only (dec_lt k f) (dec_lt f k)
              where
                only : Dec (k < f) → Dec (f < k) → k ≡ f
                only (yes d) r = absurd (omega (arith, (first_is t s (e - s) f eu).clear k d g))
                only (no d) (yes r) = absurd (omega (arith, (last_is t s (e - s) p ev).clear k (omega arith) (omega (arith, w))))
                only (no d) (no r) = omega arith

    module _ (says : Says t b h s e) (q : LoneOn t s e) where
      plain-before : (i : ℕ) → s ≤ i → i < e → get_or b i 0 ≡ plain_at t one_or_none_number i
      plain-before i a c = says.before i a c ∙ sym (lone-before t s e i a c q)

      plain-behind : (i : ℕ) → s ≤ i → i < e → get_or h i 0 ≡ plain_at t one_or_none_number i
      plain-behind i a c = says.behind i a c ∙ sym (lone-behind t s e i a c q)

      -- an entry of it shows its own point, or no point of the contour
      plain-shows : (i v : ℕ) → v ≡ plain_at t one_or_none_number i → shows v i < e → (0 < get_or t i 0) × (shows v i ≡ i)
      unfolding plain_at
      plain-shows i v w g = by (is_touched t i) refl
        where
          by : (x : Bool) → is_touched t i ≡ x → (0 < get_or t i 0) × (shows v i ≡ i)
          by true m = (marked t i m, shows-touched v i (w ∙ rw m))
          by false m = let z : v ≡ one_or_none_number = w ∙ rw m in absurd (omega (arith, shows-other v i (omega arith)))

      lone-shows : show_two b h s e ≡ true → ⊥
      lone-shows z =
          let w = two_is z in
          let l = w.less in
          let g = w.high in
          let x = plain-shows s (get_or h s 0) (plain-behind s (omega arith) lo) (omega arith) in
          let y = plain-shows (e - 1) (get_or b (e - 1) 0) (plain-before (e - 1) (omega arith) (omega arith)) (omega arith) in
          let o = lone-only q s (e - 1) (omega arith) lo x.0 (omega arith) (omega arith) y.0 in
          absurd (omega (arith, x.1, y.1, o))

      -- its weights come to 1 at the most
      own-weight : (i : ℕ) → s ≤ i → i < e → weight_at t b h i ≡ cond (is_touched t i) 1 0
      unfolding weight_at plain_at
      own-weight i a c = weight-right (get_or t i 0) (get_or b i 0) (get_or h i 0) (plain_at t one_or_none_number i) refl (plain-before i a c) (plain-behind i a c)

      one-most : (x : Bool) → cond x 1 0 ≤ 1
      one-most true = omega arith
      one-most false = omega arith

      two-most : (i j : ℕ) → s ≤ i → i < j → j < e → weight_at t b h i + weight_at t b h j ≤ 1
      two-most i j a l c = by (is_touched t i) (is_touched t j) refl refl (own-weight i a (omega arith)) (own-weight j (omega arith) c)
        where
          by : (x y : Bool) → is_touched t i ≡ x → is_touched t j ≡ y → weight_at t b h i ≡ cond (is_touched t i) 1 0
              → weight_at t b h j ≡ cond (is_touched t j) 1 0 → weight_at t b h i + weight_at t b h j ≤ 1
          by true true m n u v = absurd (let o = lone-only q i j a (omega arith) (marked t i m) (omega arith) c (marked t j n) in omega arith)
          by true false m n u v = let z : weight_at t b h j ≡ 0 = v ∙ rw n in let y : weight_at t b h i ≡ 1 = u ∙ rw m in omega arith
          by false y m n u v = let z : weight_at t b h i ≡ 0 = u ∙ rw m in let g = one-most (is_touched t j) in omega arith

      lone-weighs : sum_from (weight_at t b h) s (e - s) < 2
      lone-weighs =
          let z = sum-few (weight_at t b h) s (e - s) (λ j a c. let w = own-weight j a (omega arith) in let g = one-most (is_touched t j) in omega arith)
          (λ j k a l c. two-most j k a l (omega arith)) in
          omega arith

    -- and where they do, all is known
    module _ (w : sum_from (weight_at t b h) s (e - s) < 2) where
      weighs-right : (i : ℕ) → s ≤ i → i < e → (get_or b i 0 ≡ plain_at t one_or_none_number i) × (get_or h i 0 ≡ plain_at t one_or_none_number i)
      unfolding weight_at plain_at
      weighs-right i a c = let z = sum_one (weight_at t b h) s (e - s) i a (omega arith) in weight-below (get_or t i 0) (get_or b i 0) (get_or h i 0) (omega arith)

      weighs-two : (i j : ℕ) → s ≤ i → i < j → j < e → 0 < get_or t i 0 → 0 < get_or t j 0 → ⊥
      unfolding weight_at
      weighs-two i j a l c m n =
          let z = sum-two (weight_at t b h) s (e - s) i j a l (omega arith) in
          let x = weight-touched (get_or t i 0) (get_or b i 0) (get_or h i 0) (is-touched t i m) in
          let y = weight-touched (get_or t j 0) (get_or b j 0) (get_or h j 0) (is-touched t j n) in
          absurd (omega arith)

      weighs-lone : LoneOn t s e
      weighs-lone = by (ℕ_discrete (found_or e (first_touched t s (e - s))) (found_or e (last_touched t s (e - s))))
        where
          by : Dec (LoneOn t s e) → LoneOn t s e
          by (yes q) = q
          by (no n) =
              let r = both_found t s e n in
              let f = first_is t s (e - s) _ r.0 in
              let l = last_is t s (e - s) _ r.1 in
              differ (dec_lt (found_or e (first_touched t s (e - s))) (found_or e (last_touched t s (e - s))))
              (λ g. weighs-two _ _ f.low g (let x = l.high in omega arith) f.mark l.mark)
              (λ g. absurd (let x = f.clear _ g l.low in let y = l.mark in omega arith)) n
            where
              differ : {x y : ℕ} → Dec (x < y) → (x < y → ⊥) → (y < x → ⊥) → (x ≡ y → ⊥) → {A : Type 0} → A
              differ (yes g) u v o = absurd (u g)
              differ (no g) u v o = absurd (o (omega (arith, v)))

      weighs-says : Says t b h s e
      weighs-says = record {
        before = λ i a c. (weighs-right i a c).0 ∙ lone-before t s e i a c weighs-lone;
        behind = λ i a c. (weighs-right i a c).1 ∙ lone-behind t s e i a c weighs-lone;
      }

    -- ---- what the code decides
    found : Dec (LoneOn t s e) → (LoneOn t s e → Says t b h s e → ⊥) → Says t b h s e
        → (show_two b h s e ≡ true) × ((seam_holds t b h s e ≡ true) × (all_from (fits_at t b h) s (e - suc s) ≡ true))
    found (yes q) n w = absurd (n q w)
    found (no q) n w =
        let r = both_found t s e q in
        (shows-two w _ _ r.0 r.1 q, (seam-two w _ _ r.0 r.1 q, all_two w _ _ r.0 r.1 q))

    abbrev lone? : Dec (LoneOn t s e)
    lone? = ℕ_discrete (found_or e (first_touched t s (e - s))) (found_or e (last_touched t s (e - s)))

    -- by the weights, where the ends show no two points
    pub lone-decides : show_two b h s e ≡ false → ltb (sum_from (weight_at t b h) s (e - s)) 2 ≡ said_on t b h s e
    lone-decides z =
        both_ways (ltb (sum_from (weight_at t b h) s (e - s)) 2) (said_on t b h s e)
        (λ q. says-said t b h s e (weighs-says (ltb-true (sum_from (weight_at t b h) s (e - s)) 2 q)))
        (λ q. by (said-says t b h s e q) lone?)
      where
        by : Says t b h s e → Dec (LoneOn t s e) → ltb (sum_from (weight_at t b h) s (e - s)) 2 ≡ true
        by w (yes q) = lt-ltb (sum_from (weight_at t b h) s (e - s)) 2 (lone-weighs w q)
        by w (no q) = absurd (never (sym z ∙ (found (no q) (λ y _. q y) w).0))

    -- and where the lists are right one point is touched or none
    pub shown-lone : show_two b h s e ≡ false → Says t b h s e → LoneOn t s e
    shown-lone z w = by lone?
      where
        by : Dec (LoneOn t s e) → LoneOn t s e
        by (yes q) = q
        by (no q) = absurd (never (sym z ∙ (found (no q) (λ y _. q y) w).0))

    -- by the seam and the neighbours, where they do
    module _ (z : show_two b h s e ≡ true) where
      said-found : said_on t b h s e ≡ true → (seam_holds t b h s e ≡ true) × (all_from (fits_at t b h) s (e - suc s) ≡ true)
      said-found q = (found lone? (λ y w. lone-shows w y z) (said-says t b h s e q)).1

      pub seam-decides : seam_holds t b h s e ≡ false → false ≡ said_on t b h s e
      seam-decides q = both_ways false (said_on t b h s e) (λ y. absurd (never y)) (λ y. absurd (never (sym q ∙ (said-found y).0)))

      pub fits-decide : seam_holds t b h s e ≡ true → all_from (fits_at t b h) s (e - suc s) ≡ said_on t b h s e
      fits-decide q =
          both_ways (all_from (fits_at t b h) s (e - suc s)) (said_on t b h s e) (λ y. says-said t b h s e (fitting-says (two_is z) q y)) (λ y. (said-found y).1)

      -- and where the lists are right two points are touched
      pub shown-two : Says t b h s e → TwoOn t s e
      shown-two w = by lone?
        where
          by : Dec (LoneOn t s e) → TwoOn t s e
          by (yes q) = absurd (lone-shows w q z)
          by (no q) = let r = both_found t s e q in record { first = _; last = _; first_is = r.0; last_is = r.1; different = q }

      -- the first that is shown is a point of the contour
      pub shown-in : first_shown h s < e
      shown-in = let w = two_is z in let l = w.less in let g = w.high in omega arith

-- ---- the loops
-- neighbours, from the point j on: i is the one behind it
pub fits_next : (t b h : List ℕ) (i : ℕ) → 0 < i → fits (get_or t i 0) (get_or b (i - 1) 0) (get_or b i 0) (get_or h (i - 1) 0) (get_or h i 0) (i - 1) i
    ≡ fits_at t b h (i - 1)
unfolding fits_at
fits_next t b h i o =
    let a : i ≡ suc (i - 1) = omega arith in
    ap (λ (x : ℕ). fits (get_or t x 0) (get_or b (i - 1) 0) (get_or b x 0) (get_or h (i - 1) 0) (get_or h x 0) (i - 1) x) a

pub fits-here : (t b h : List ℕ) (j : ℕ) → fits (get_or t (j + 1) 0) (get_or b j 0) (get_or b (j + 1) 0) (get_or h j 0) (get_or h (j + 1) 0) j (j + 1) ≡ fits_at t b h j
unfolding fits_at
fits-here t b h j = let a : j + 1 ≡ suc j = omega arith in ap (λ (x : ℕ). fits (get_or t x 0) (get_or b j 0) (get_or b x 0) (get_or h j 0) (get_or h x 0) j x) a

-- one by one: those from j on decide, where i is behind j
pub all_none : (f : ℕ → Bool) (s e : ℕ) → all_from f s (e - suc s) ≡ all_from f (s + 1 - 1) (e - (s + 1))
all_none f s e = let a : s + 1 - 1 ≡ s = omega arith in let c : e - (s + 1) ≡ e - suc s = omega arith in rw (a, c)

pub all-next : (f : ℕ → Bool) (e i : ℕ) (here : Bool) → 0 < i → i < e → here ≡ f (i - 1) → here ≡ true
    → all_from f (i - 1) (e - i) ≡ all_from f (i + 1 - 1) (e - (i + 1))
unfolding all_from
all-next f e i here o g q y =
    let a : e - i ≡ suc (e - (i + 1)) = omega arith in
    let c : suc (i - 1) ≡ i + 1 - 1 = omega arith in
    rw (a, sym q ∙ y, c)

pub all-fails : (f : ℕ → Bool) (e i : ℕ) (here : Bool) → i < e → here ≡ f (i - 1) → here ≡ false → all_from f (i - 1) (e - i) ≡ false
unfolding all_from
all-fails f e i here g q n = let a : e - i ≡ suc (e - (i + 1)) = omega arith in rw (a, sym q ∙ n)

pub all_end : (f : ℕ → Bool) (e i : ℕ) → e ≤ i → all_from f (i - 1) (e - i) ≡ true
unfolding all_from
all_end f e i g = let a : e - i ≡ 0 = omega arith in rw a

-- some more: two runs that meet or overlap are one
all-joined : (f : ℕ → Bool) (s i a n : ℕ) → s ≤ a → a ≤ i → i ≤ a + n → (all_from f s (i - s) && all_from f a n) ≡ all_from f s (a + n - s)
all-joined f s i a n l m h =
    both_ways (all_from f s (i - s) && all_from f a n) (all_from f s (a + n - s))
    (λ q. all_of f s (a + n - s) (λ j x y. by j x y (dec_lt j i) (and_first (all_from f s (i - s)) (all_from f a n) q)
    (and_second (all_from f s (i - s)) (all_from f a n) q)))
    (λ q. rw (
      all_of f s (i - s) (λ j x y. all-at f s (a + n - s) q j x (omega arith)),
      all_of f a n
          (λ j x y. all-at f s (a + n - s) q j (omega arith) (omega arith)),
    ))
  where
    by : (j : ℕ) → s ≤ j → j < s + (a + n - s) → Dec (j < i) → all_from f s (i - s) ≡ true → all_from f a n ≡ true → f j ≡ true
    by j x y (yes z) u v = all-at f s (i - s) u j x (omega arith)
    by j x y (no z) u v = all-at f a n v j (omega arith) (omega arith)

-- the next one of a run, and the next run
pub all_more : (f : ℕ → Bool) (a k : ℕ) (ok here : Bool) → ok ≡ all_from f a k → here ≡ f (a + k) → (ok && here) ≡ all_from f a (k + 1)
unfolding all_from
all_more f a k ok here q r =
    let z : a + k + 1 - a ≡ k + 1 = omega arith in
    let y : a + k - a ≡ k = omega arith in
    let x : all_from f (a + k) 1 ≡ f (a + k) = and-true (f (a + k)) in
    (λ o. q o && (r ∙ sym x) o) ∙ ap (λ (n : ℕ). all_from f a n && all_from f (a + k) 1) (sym y)
    ∙ all-joined f a (a + k) (a + k) 1 (omega arith) (omega arith) (omega arith) ∙ ap (all_from f a) z

pub runs_none : (f : ℕ → Bool) (s : ℕ) → true ≡ all_from f s (s - s)
unfolding all_from
runs_none f s = let a : s - s ≡ 0 = omega arith in rw a

pub runs-more : (f : ℕ → Bool) (s i n : ℕ) (ok here : Bool) → s ≤ i → ok ≡ all_from f s (i - s) → here ≡ all_from f i n → (ok && here) ≡ all_from f s (i + n - s)
runs-more f s i n ok here l q r = (λ o. q o && r o) ∙ all-joined f s i i n l (omega arith) (omega arith)

-- the last run, up to the point in front of e
pub runs-end : (f : ℕ → Bool) (s e i a : ℕ) (ok here : Bool) → s ≤ a → a + 9 ≡ e → a ≤ i → i ≤ a + 8 → ok ≡ all_from f s (i - s) → here ≡ all_from f a 8
    → (ok && here) ≡ all_from f s (e - suc s)
runs-end f s e i a ok here l n g h q r =
    let z : a + 8 - s ≡ e - suc s = omega arith in
    (λ o. q o && r o) ∙ all-joined f s i a 8 l g h ∙ ap (all_from f s) z

-- weights
pub weights-next : (t b h : List ℕ) (e i sum w : ℕ) → i < e → w ≡ weight (get_or t i 0) (get_or b i 0) (get_or h i 0)
    → sum + sum_from (weight_at t b h) i (e - i) ≡ sum + w + sum_from (weight_at t b h) (i + 1) (e - (i + 1))
unfolding sum_from weight_at
weights-next t b h e i sum w g q =
    let a : e - i ≡ suc (e - (i + 1)) = omega arith in
    let c : suc i ≡ i + 1 = omega arith in
    let z : sum + (weight (get_or t i 0) (get_or b i 0) (get_or h i 0) + sum_from (weight_at t b h) (suc i) (e - (i + 1)))
    ≡ sum + w + sum_from (weight_at t b h) (i + 1) (e - (i + 1)) =
    let k = ap (λ (x : ℕ). sum_from (weight_at t b h) x (e - (i + 1))) c in omega arith in
    rw a z

pub weights-end : (f : ℕ → ℕ) (e i sum : ℕ) → e ≤ i → sum + sum_from f i (e - i) ≡ sum
unfolding sum_from
weights-end f e i sum g = let a : e - i ≡ 0 = omega arith in rw a (omega arith)

-- what is summed up so far, with the weight w of the next point, is no more than twice the points
pub weights-most : (t b h : List ℕ) (s e i sum w : ℕ) → s ≤ i → i < e → w ≡ weight (get_or t i 0) (get_or b i 0) (get_or h i 0)
    → sum + sum_from (weight_at t b h) i (e - i) ≡ sum_from (weight_at t b h) s (e - s) → sum + w ≤ 2 * (e - s)
unfolding weight_at
weights-most t b h s e i sum w a g q z =
    let m = sum-most (weight_at t b h) s (e - s) (λ j. weight-most (get_or t j 0) (get_or b j 0) (get_or h j 0)) in
    let n = weights-next t b h e i sum w g q in
    omega arith

-- ---- the same, as the code comes to it
-- two neighbours
pub fits_by : (m p q u w j i x x' y y' : ℕ) (front rear : Bool) → x' ≡ shows p j → x ≡ cond (ltb 0 m) touched_number x' → y' ≡ shows w i
    → y ≡ cond (eqb p touched_number) touched_number y' → front ≡ eqb q x → rear ≡ eqb u y
    → (front && rear) ≡ fits m p q u w j i
unfolding fits
fits_by m p q u w j i x x' y y' front rear a c d f g k =
    let l = g ∙ ap (eqb q) (c ∙ ap (cond (ltb 0 m) touched_number) a) in
    let r = k ∙ ap (eqb u) (f ∙ ap (cond (eqb p touched_number) touched_number) d) in
    λ o. l o && r o

-- a weight
pub weight-wrong : (m p u x : ℕ) (front rear : Bool) → x ≡ cond (ltb 0 m) touched_number one_or_none_number → front ≡ eqb p x → rear ≡ eqb u x
    → (front && rear) ≡ false → 2 ≡ weight m p u
unfolding weight
weight-wrong m p u x front rear a c d f =
    let z : (eqb p (cond (ltb 0 m) touched_number one_or_none_number) && eqb u (cond (ltb 0 m) touched_number one_or_none_number)) ≡ false = let n = sym a in
    let k = sym c in let l = sym d in (λ o. eqb p (n o) && eqb u (n o)) ∙ (λ o. k o && l o) ∙ f in
    rw z

pub weight-by : (m p u x : ℕ) (front rear y : Bool) → x ≡ cond (ltb 0 m) touched_number one_or_none_number → front ≡ eqb p x → rear ≡ eqb u x
    → (front && rear) ≡ true → ltb 0 m ≡ y → cond y 1 0 ≡ weight m p u
unfolding weight
weight-by m p u x front rear y a c d f g =
    let z : (eqb p (cond (ltb 0 m) touched_number one_or_none_number) && eqb u (cond (ltb 0 m) touched_number one_or_none_number)) ≡ true = let n = sym a in
    let k = sym c in let l = sym d in (λ o. eqb p (n o) && eqb u (n o)) ∙ (λ o. k o && l o) ∙ f in
    rw (z, g)

-- what the ends show
module _ (b h : List ℕ) (s e : ℕ) where
  pub two-low : (f : ℕ) → f ≡ first_shown h s → f < s → false ≡ show_two b h s e
  unfolding show_two
  two-low f q g = rw (lt-leb s (first_shown h s) (omega arith))

  pub two-same : (f l : ℕ) → f ≡ first_shown h s → l ≡ last_shown b e → s ≤ f → l ≤ f → false ≡ show_two b h s e
  unfolding show_two
  two-same f l q r g k = rw (le-leb s (first_shown h s) (omega arith), le-ltb (first_shown h s) (last_shown b e) (omega arith))

  pub two-rest : (f l : ℕ) → f ≡ first_shown h s → l ≡ last_shown b e → s ≤ f → f < l → ltb l e ≡ show_two b h s e
  unfolding show_two
  two-rest f l q r g k = rw (le-leb s (first_shown h s) (omega arith), lt-ltb (first_shown h s) (last_shown b e) (omega arith)) (ap (λ (x : ℕ). ltb x e) r)

  -- and the seam
  pub seam-not : (t : List ℕ) (f : ℕ) → f ≡ first_shown h s → get_or t f 0 ≡ 0 → false ≡ seam_holds t b h s e
  unfolding seam_holds
  seam-not t f q m = rw (not-touched t (first_shown h s) (sym (ap (λ (x : ℕ). get_or t x 0) q) ∙ m))

  pub seam-by : (t : List ℕ) (f l x y : ℕ) (front rear : Bool) → f ≡ first_shown h s → l ≡ last_shown b e → (get_or t f 0 ≡ 0 → ⊥)
      → x ≡ cond (is_touched t s) touched_number l → y ≡ cond (is_touched t (e - 1)) touched_number f
      → front ≡ eqb (get_or b s 0) x → rear ≡ eqb (get_or h (e - 1) 0) y → (front && rear) ≡ seam_holds t b h s e
  unfolding seam_holds
  seam-by t f l x y front rear q r m a c d g =
      let k = d ∙ ap (eqb (get_or b s 0)) (a ∙ ap (cond (is_touched t s) touched_number) r) in
      let n = g ∙ ap (eqb (get_or h (e - 1) 0)) (c ∙ ap (cond (is_touched t (e - 1)) touched_number) q) in
      let z : 0 < get_or t f 0 = omega (arith, m) in
      rw (is-touched t (first_shown h s) (subst (λ (v : ℕ). 0 < get_or t v 0) q z)) (λ o. k o && n o)
