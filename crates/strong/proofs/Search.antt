-- Which edge is found for a font position: in every table its neighbour lies below and it does not, and where the font positions do not fall these are the
-- nearest.
use mathlib.Core.Path.{◌≡◌, refl, ap, subst, ◌∙◌}
use mathlib.Core.Bool.{Bool, true, false, cond}
use mathlib.Core.Logic.{◌⊎◌, inl, inr, ⊎_elim}
use Prim.Native.Nat.{ℕ, zero, suc, ◌+◌, ◌-◌, ◌≤◌, ◌<◌}
use native.Mathlib.Nat.{eq-or-lt_of_le}
use native.Mathlib.Numerals.{add-one}
use native.Mathlib.Omega.{arith}
use borrow.Author.Tests.{ltb-true, ltb-false, lt-ltb, le-ltb, le-leb, lt-leb}
use lib.Dec.{ltb, leb}
use lib.IntN.{ℤ}
use lib.Signed.{lt_z, le_z, ◌≤ℤ◌, ◌<ℤ◌}
use Rattle.signed.specs.Equality.{eq_z}
use Rattle.signed.specs.Parts.{up, dn}
use Rattle.signed.proofs.Signed.{is-≤ℤ, is-<ℤ, to-≤ℤ, to-lt-false, lt-or-le, eq_z-true, eq_z-yes, eq_z-no, eq_z-apart, to-≡}
use Rattle.signed.proofs.Choices.{cond-true, cond-false}
use Rattle.signed.proofs.Order.{le-false, lt-false, of-≤ℤ, of-<ℤ, to-<ℤ, of-≡}
use Rattle.axis.specs.declared.edge.Axis.{Axis}
use Rattle.strong.specs.Strong.{most_one_by_one, one_by_one, middle, by_halving, fpos_at, found}
use Rattle.strong.specs.Steps.{Inside, Around, Rising}

-- ---- one by one
-- r is the first of the n numbers from i on that is not below u, or the place behind them
record First (f : ℕ → ℤ) (u : ℤ) (i n r : ℕ) : Type 0 where
  low : i ≤ r
  high : r ≤ i + n
  passed : (j : ℕ) → i ≤ j → j < r → f j <ℤ u
  reached : r < i + n → u ≤ℤ f r

first_is : (f : ℕ → ℤ) (u : ℤ) (i n : ℕ) → First f u i n (one_by_one f u i n)
unfolding one_by_one
first_is f u i zero = record { low = omega arith; high = omega arith; passed = λ j a b. absurd (omega arith); reached = λ h. absurd (omega arith) }
first_is f u i (suc n) = by (le_z u (f i)) refl (first_is f u (suc i) n)
  where
    by : (t : Bool) → le_z u (f i) ≡ t → First f u (suc i) n (one_by_one f u (suc i) n) → First f u i (suc n) (cond t i (one_by_one f u (suc i) n))
    by true e r = record { low = omega arith; high = omega arith; passed = λ j a b. absurd (omega arith); reached = λ h. is-≤ℤ u (f i) e }
    by false e r = record {
      low = omega (arith, r.low);
      high = omega (arith, r.high);
      passed = λ j a b.
          ⊎_elim (λ (q : i ≡ j). subst (λ (k : ℕ). f k <ℤ u) q (to-<ℤ (f i) u (le-false u (f i) e))) (λ (l : i < j). r.passed j (omega arith) b)
          (eq-or-lt_of_le a);
      reached = λ h. r.reached (omega arith);
    }

-- what is left of n numbers from i on, turn by turn
pub one-start : (f : ℕ → ℤ) (u : ℤ) (n : ℕ) → one_by_one f u 0 n ≡ one_by_one f u 0 (n - 0)
one-start f u n = let q : n ≡ n - 0 = omega arith in ap (one_by_one f u 0) q

module _ (f : ℕ → ℤ) (u : ℤ) (n i : ℕ) where
  pub one-here : i < n → le_z u (f i) ≡ true → one_by_one f u i (n - i) ≡ i
  unfolding one_by_one
  one-here h e = let q : n - i ≡ suc (n - (i + 1)) = omega arith in ap (one_by_one f u i) q ∙ rw e

  pub one_on : i < n → le_z u (f i) ≡ false → one_by_one f u i (n - i) ≡ one_by_one f u (i + 1) (n - (i + 1))
  unfolding one_by_one
  one_on h e = let q : n - i ≡ suc (n - (i + 1)) = omega arith in ap (one_by_one f u i) q ∙ rw (e, add-one)

  pub one_end : n ≤ i → one_by_one f u i (n - i) ≡ i
  unfolding one_by_one
  one_end h = let q : n - i ≡ 0 = omega arith in ap (one_by_one f u i) q

-- ---- by halving
-- of n numbers r is u, or neither it nor the one before it is, which lie around u
record Met (f : ℕ → ℤ) (u : ℤ) (n r : ℕ) : Type 0 where
  high : r ≤ n
  how : ((r < n) × (u ≡ f r)) ⊎ ((0 < r → f (r - 1) <ℤ u) × (r < n → u <ℤ f r))

-- neither below nor equal
above : (u z : ℤ) → lt_z u z ≡ false → eq_z u z ≡ false → z <ℤ u
above u z l e = to-<ℤ z u (⊎_elim (λ h. h) (λ h. absurd (eq_z-apart u z e (to-≡ u z (omega (arith, lt-false u z l, h))))) (lt-or-le (up z + dn u) (up u + dn z)))

met : (f : ℕ → ℤ) (u : ℤ) (n m lo hi : ℕ) → hi ≤ lo + m → lo ≤ hi → hi ≤ n → (0 < lo → f (lo - 1) <ℤ u) → (hi < n → u <ℤ f hi)
    → Met f u n (by_halving f u m lo hi)
unfolding by_halving
met f u n zero lo hi a b c low high =
    let q : hi ≡ lo = omega arith in
    record { high = omega arith; how = inr (low, λ h. subst (λ (k : ℕ). u <ℤ f k) q (high (omega arith))) }
met f u n (suc m) lo hi a b c low high =
    by (ltb lo hi) (lt_z u (f (middle lo hi))) (eq_z u (f (middle lo hi))) refl refl refl
    (λ l h. met f u n m lo (middle lo hi) (omega arith) (omega arith) (omega arith) low (λ _. h))
    (λ l h. met f u n m (suc (middle lo hi)) hi (omega arith) (omega arith) c
    (λ _. let q : middle lo hi ≡ suc (middle lo hi) - 1 = omega arith in subst (λ (k : ℕ). f k <ℤ u) q h) high)
  where
    by : (x y z : Bool) → ltb lo hi ≡ x → lt_z u (f (middle lo hi)) ≡ y → eq_z u (f (middle lo hi)) ≡ z
        → (lo < hi → u <ℤ f (middle lo hi) → Met f u n (by_halving f u m lo (middle lo hi)))
        → (lo < hi → f (middle lo hi) <ℤ u → Met f u n (by_halving f u m (suc (middle lo hi)) hi))
        → Met f u n (cond x (cond y (by_halving f u m lo (middle lo hi)) (cond z (middle lo hi) (by_halving f u m (suc (middle lo hi)) hi))) lo)
    by false y z p q r below behind =
        let e : hi ≡ lo = omega (arith, ltb-false lo hi p) in
        record { high = omega arith; how = inr (low, λ h. subst (λ (k : ℕ). u <ℤ f k) e (high (omega arith))) }
    by true true z p q r below behind = below (ltb-true lo hi p) (is-<ℤ u (f (middle lo hi)) q)
    by true false true p q r below behind = let l = ltb-true lo hi p in record { high = omega arith; how = inl (omega arith, eq_z-true u (f (middle lo hi)) r) }
    by true false false p q r below behind = behind (ltb-true lo hi p) (above u (f (middle lo hi)) q r)

-- as many steps as there are numbers are enough, and more change nothing
pub enough-steps : (f : ℕ → ℤ) (u : ℤ) (m n lo hi : ℕ) → hi ≤ lo + m → hi ≤ lo + n → by_halving f u m lo hi ≡ by_halving f u n lo hi
unfolding by_halving
enough-steps f u zero zero lo hi a b = refl
enough-steps f u zero (suc n) lo hi a b = rw (le-ltb lo hi (omega arith))
enough-steps f u (suc m) zero lo hi a b = rw (le-ltb lo hi (omega arith))
enough-steps f u (suc m) (suc n) lo hi a b =
    by (ltb lo hi) refl (λ l. enough-steps f u m n lo (middle lo hi) (omega arith) (omega arith))
    (λ l. enough-steps f u m n (suc (middle lo hi)) hi (omega arith) (omega arith))
  where
    by : (x : Bool) → ltb lo hi ≡ x
        → (lo < hi → by_halving f u m lo (middle lo hi) ≡ by_halving f u n lo (middle lo hi))
        → (lo < hi → by_halving f u m (suc (middle lo hi)) hi ≡ by_halving f u n (suc (middle lo hi)) hi)
        → cond x (cond (lt_z u (f (middle lo hi))) (by_halving f u m lo (middle lo hi))
        (cond (eq_z u (f (middle lo hi))) (middle lo hi) (by_halving f u m (suc (middle lo hi)) hi))) lo
        ≡ cond x (cond (lt_z u (f (middle lo hi))) (by_halving f u n lo (middle lo hi))
        (cond (eq_z u (f (middle lo hi))) (middle lo hi) (by_halving f u n (suc (middle lo hi)) hi))) lo
    by false p below behind = refl
    by true p below behind = let l = ltb-true lo hi p in rw (below l, behind l)

-- what is left between lo and hi, step by step
pub steps-start : (f : ℕ → ℤ) (u : ℤ) (n : ℕ) → by_halving f u n 0 n ≡ by_halving f u (n - 0) 0 n
steps-start f u n = let q : n ≡ n - 0 = omega arith in ap (λ (k : ℕ). by_halving f u k 0 n) q

module _ (f : ℕ → ℤ) (u : ℤ) (lo hi : ℕ) (l : lo < hi) where
  one-step :
      by_halving f u (hi - lo) lo hi
      ≡ cond (lt_z u (f (middle lo hi))) (by_halving f u (middle lo hi - lo) lo (middle lo hi))
      (cond (eq_z u (f (middle lo hi))) (middle lo hi) (by_halving f u (hi - suc (middle lo hi)) (suc (middle lo hi)) hi))
  unfolding by_halving
  one-step =
      let m = hi - lo - 1 in
      let e : hi - lo ≡ suc m = omega arith in
      ap (λ (k : ℕ). by_halving f u k lo hi) e
      ∙ rw (
        lt-ltb lo hi l,
        enough-steps f u m (middle lo hi - lo) lo (middle lo hi) (omega arith) (omega arith),
        enough-steps f u m (hi - suc (middle lo hi)) (suc (middle lo hi)) hi (omega arith) (omega arith),
      )

  pub step-low : lt_z u (f (middle lo hi)) ≡ true → by_halving f u (hi - lo) lo hi ≡ by_halving f u (middle lo hi - lo) lo (middle lo hi)
  step-low e = one-step ∙ rw e

  pub step-on : u ≡ f (middle lo hi) → by_halving f u (hi - lo) lo hi ≡ middle lo hi
  step-on e = one-step ∙ rw (to-lt-false u (f (middle lo hi)) (omega (arith, of-≡ u (f (middle lo hi)) e)), eq_z-yes u (f (middle lo hi)) e)

  pub step-high : lt_z u (f (middle lo hi)) ≡ false → (u ≡ f (middle lo hi) → ⊥)
      → by_halving f u (hi - lo) lo hi ≡ by_halving f u (hi - (middle lo hi + 1)) (middle lo hi + 1) hi
  step-high e n = one-step ∙ rw (e, eq_z-no u (f (middle lo hi)) n, add-one)

pub steps-end : (f : ℕ → ℤ) (u : ℤ) (lo hi : ℕ) → hi ≤ lo → by_halving f u (hi - lo) lo hi ≡ lo
unfolding by_halving
steps-end f u lo hi l = let e : hi - lo ≡ 0 = omega arith in ap (λ (k : ℕ). by_halving f u k lo hi) e

-- ---- the edge that is found
-- by which search
pub found-few : (axis : Axis) (u : ℤ) → axis.len ≤ most_one_by_one → found axis u ≡ one_by_one (fpos_at axis) u 0 axis.len
unfolding found
found-few axis u h = cond-true _ _ _ (le-leb axis.len most_one_by_one h)

pub found-many : (axis : Axis) (u : ℤ) → most_one_by_one < axis.len → found axis u ≡ by_halving (fpos_at axis) u axis.len 0 axis.len
unfolding found
found-many axis u h = cond-false _ _ _ (lt-leb axis.len most_one_by_one h)

module _ (axis : Axis) (u : ℤ) (h : Inside axis u) where
  abbrev n : ℕ
  n = axis.len

  -- there is more than one edge
  two : 1 < n
  two = ⊎_elim (λ (l : 1 < n). l) (λ (l : n ≤ 1). absurd (turned (let q : n - 1 ≡ 0 = omega arith in q))) (lt-or-le 1 n)
    where
      turned : n - 1 ≡ 0 → ⊥
      turned q = let b = subst (λ (k : ℕ). u <ℤ fpos_at axis k) q h.below in omega (arith, of-<ℤ (fpos_at axis 0) u h.above, of-<ℤ u (fpos_at axis 0) b)

  by_one : {r : ℕ} → First (fpos_at axis) u 0 n r → Around axis u r
  by_one {r} g = record {
    behind_one = some;
    inside = below;
    reached = g.reached (omega (arith, below));
    passed = λ _. g.passed (r - 1) (omega arith) (omega (arith, some));
  }
    where
      some : 0 < r
      some =
          ⊎_elim (λ (l : 0 < r). l)
          (λ (l : r ≤ 0). absurd (let q : r ≡ 0 = omega arith in let b = subst (λ (k : ℕ). u ≤ℤ fpos_at axis k) q (g.reached (omega (arith, two))) in
          omega (arith, of-<ℤ (fpos_at axis 0) u h.above, of-≤ℤ u (fpos_at axis 0) b)))
          (lt-or-le 0 r)

      below : r < n
      below =
          ⊎_elim (λ (l : r < n). l)
          (λ (l : n ≤ r). absurd (omega (
            arith,
            of-<ℤ u (fpos_at axis (n - 1)) h.below,
            of-<ℤ (fpos_at axis (n - 1)) u
                (g.passed (n - 1) (omega arith) (omega (arith, two))),
          )))
          (lt-or-le r n)

  by-halves : {r : ℕ} → Met (fpos_at axis) u n r → Around axis u r
  by-halves {r} g = ⊎_elim on around g.how
    where
      on : (r < n) × (u ≡ fpos_at axis r) → Around axis u r
      on p = record {
        behind_one = ⊎_elim (λ (l : 0 < r). l)
            (λ (l : r ≤ 0). absurd (let q : r ≡ 0 = omega arith in let e = subst (λ (k : ℕ). u ≡ fpos_at axis k) q p.1 in
            omega (arith, of-<ℤ (fpos_at axis 0) u h.above, of-≡ u (fpos_at axis 0) e)))
            (lt-or-le 0 r);
        inside = p.0;
        reached = to-≤ℤ u (fpos_at axis r) (omega (arith, of-≡ u (fpos_at axis r) p.1));
        passed = λ away. absurd (away p.1);
      }

      around : (0 < r → fpos_at axis (r - 1) <ℤ u) × (r < n → u <ℤ fpos_at axis r) → Around axis u r
      around p = record {
        behind_one = some;
        inside = below;
        reached = to-≤ℤ u (fpos_at axis r) (omega (arith, of-<ℤ u (fpos_at axis r) (p.1 below)));
        passed = λ away. p.0 some;
      }
        where
          below : r < n
          below =
              ⊎_elim (λ (l : r < n). l)
              (λ (l : n ≤ r). absurd (let q : r ≡ n = omega (arith, g.high) in let b = subst (λ (k : ℕ). fpos_at axis (k - 1) <ℤ u) q
              (p.0 (omega (arith, two))) in
              omega (arith, of-<ℤ u (fpos_at axis (n - 1)) h.below, of-<ℤ (fpos_at axis (n - 1)) u b)))
              (lt-or-le r n)

          some : 0 < r
          some =
              ⊎_elim (λ (l : 0 < r). l)
              (λ (l : r ≤ 0). absurd (let q : r ≡ 0 = omega arith in let b = subst (λ (k : ℕ). u <ℤ fpos_at axis k) q (p.1 below) in
              omega (arith, of-<ℤ (fpos_at axis 0) u h.above, of-<ℤ u (fpos_at axis 0) b)))
              (lt-or-le 0 r)

  -- it is at or behind u, and where it is not on u the one before it lies below: in every table, so that nothing is divided by 0
  pub around : Around axis u (found axis u)
  unfolding found
  around = by (leb n most_one_by_one)
    where
      by : (t : Bool) → Around axis u (cond t (one_by_one (fpos_at axis) u 0 n) (by_halving (fpos_at axis) u n 0 n))
      by true = by_one (first_is (fpos_at axis) u 0 n)
      by false = by-halves (met (fpos_at axis) u n n 0 n (omega arith) (omega arith) (omega arith) (λ l. absurd (omega arith)) (λ l. absurd (omega arith)))

-- where u is not on the edge that is found it lies strictly between that one and the one before it
pub strictly : (axis : Axis) (u : ℤ) (k : ℕ) → Around axis u k → (u ≡ fpos_at axis k → ⊥) → (fpos_at axis (k - 1) <ℤ u) × (u <ℤ fpos_at axis k)
strictly axis u k a away = (
  a.passed away,
  to-<ℤ u (fpos_at axis k) (⊎_elim (λ l. l) (λ l. absurd (away (to-≡ u (fpos_at axis k) (omega (arith, of-≤ℤ u (fpos_at axis k) a.reached, l)))))
      (lt-or-le (up u + dn (fpos_at axis k)) (up (fpos_at axis k) + dn u))),
)

-- where the font positions do not fall, no edge lies between these two: every other is at or in front of the one, or at or behind the other
pub nearest : (axis : Axis) (u : ℤ) (k : ℕ) → Rising axis → Around axis u k → (j : ℕ) → j < axis.len
    → (fpos_at axis j ≤ℤ fpos_at axis (k - 1)) ⊎ (fpos_at axis k ≤ℤ fpos_at axis j)
nearest axis u k rise a j h =
    ⊎_elim (λ (l : j < k). inl (rise.fpos j (k - 1) (omega arith) (omega (arith, a.inside)))) (λ (l : k ≤ j). inr (rise.fpos k j l h)) (lt-or-le j k)
