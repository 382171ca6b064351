-- Contours: the list of a contour's points, its first on-curve point, and the walk around from it.
use mathlib.Core.Path.{◌≡◌, refl, sym, ap, ◌∙◌, subst}
use mathlib.Core.Logic.{⊎_elim}
use mathlib.Core.Bool.{true, false}
use mathlib.Core.List.{List, [], ◌∷◌, ◌++◌, append-nil}
use Prim.Native.Nat.{ℕ, zero, suc, ◌+◌, ◌-◌, ◌≤◌, ◌<◌}
use native.Mathlib.Nat.{add-zero, lt_irrefl}
use native.Mathlib.Omega.{arith}
use borrow.Author.Tests.{lt-ltb, le-ltb}
use Rattle.signed.proofs.Signed.{lt-or-le}
use lib.ListN.{length, get_or, length-append, get_or-append}
use lib.Seq.{get_or-append-add}
use Rattle.path_trip.specs.Path.{Points, on_curve, from, front, rest}
use Rattle.path_trip.specs.declared.tour.Spot.{Spot}
use Rattle.path_trip.specs.declared.tour.Spot.TheVariants.{Point, Between}
use Rattle.path_trip.specs.Legs.{Tour, tour_by, tour_of}
use Rattle.path_trip.specs.Trips.{First, Inside, around, Walk}

-- ---- `from`
-- how many
pub length_from : (a n : ℕ) → length (from a n) ≡ n
unfolding from
length_from a zero = refl
length_from a (suc n) = ap suc (length_from (suc a) n)

-- its place j
pub at_from : (a n j : ℕ) → j < n → get_or (from a n) j 0 ≡ a + j
unfolding from
at_from a zero j h = absurd (lt_irrefl j (omega arith))
at_from a (suc n) zero h = sym (add-zero a)
at_from a (suc n) (suc j) h = at_from (suc a) n j (omega arith) ∙ omega arith

-- ---- the first on-curve point
module _ (o : Points) where
  on_is : (i : ℕ) → 0 < get_or o.marks i 0 → on_curve o i ≡ true
  on_is i h = lt-ltb 0 (get_or o.marks i 0) h

  off-is : (i : ℕ) → get_or o.marks i 0 ≡ 0 → on_curve o i ≡ false
  off-is i h = le-ltb 0 (get_or o.marks i 0) (omega arith)

  abbrev Clear : ℕ → ℕ → Type 0
  Clear a d = (z : ℕ) → z < a + d → a ≤ z → get_or o.marks z 0 ≡ 0

  -- d off-curve points in front of others
  front-clear : (d a n : ℕ) → d ≤ n → Clear a d → front o (from a n) ≡ from a d ++ front o (from (a + d) (n - d))
  unfolding from front
  front-clear zero a n h c = let p : a ≡ a + 0 = omega arith in let q : n ≡ n - 0 = omega arith in λ i. front o (from (p i) (q i))
  front-clear (suc d) a zero h c = let z : ⊥ = omega arith in absurd z
  front-clear (suc d) a (suc n) h c =
      let p : suc a + d ≡ a + suc d = omega arith in
      let q : n - d ≡ suc n - suc d = omega arith in
      rw (off-is a (c a (omega arith) (omega arith)))
      (ap (λ l. a ∷ l) (front-clear d (suc a) n (omega arith) (λ z x y. c z (omega arith) (omega arith)) ∙ λ i. from (suc a) d ++ front o (from (p i) (q i))))

  rest-clear : (d a n : ℕ) → d ≤ n → Clear a d → rest o (from a n) ≡ rest o (from (a + d) (n - d))
  unfolding from rest
  rest-clear zero a n h c = let p : a ≡ a + 0 = omega arith in let q : n ≡ n - 0 = omega arith in λ i. rest o (from (p i) (q i))
  rest-clear (suc d) a zero h c = let z : ⊥ = omega arith in absurd z
  rest-clear (suc d) a (suc n) h c =
      let p : suc a + d ≡ a + suc d = omega arith in
      let q : n - d ≡ suc n - suc d = omega arith in
      rw (off-is a (c a (omega arith) (omega arith)))
      (rest-clear d (suc a) n (omega arith) (λ z x y. c z (omega arith) (omega arith)) ∙ λ i. rest o (from (p i) (q i)))

  -- at an on-curve point
  front-on : (a m n : ℕ) → n ≡ suc m → 0 < get_or o.marks a 0 → front o (from a n) ≡ []
  unfolding from front
  front-on a m n e h = rw (e, on_is a h)

  rest-on : (a m n : ℕ) → n ≡ suc m → 0 < get_or o.marks a 0 → rest o (from a n) ≡ a ∷ from (suc a) m
  unfolding from rest
  rest-on a m n e h = rw (e, on_is a h)

  rest-none : (a : ℕ) → rest o (from a 0) ≡ []
  unfolding from rest
  rest-none a = refl

-- ---- the tour of a contour
-- with an on-curve point
by-some : (a e : ℕ) (before : List ℕ) (f : ℕ) (behind l : List ℕ) → l ≡ f ∷ behind → tour_by a e before l ≡ record { start = Point f; walk = behind ++ before }
unfolding tour_by
by-some a e before f behind l q = rw q

-- with none
by-none : (a e : ℕ) (before l : List ℕ) → l ≡ [] → tour_by a e before l ≡ record { start = Between e a; walk = from a (suc e - a) }
unfolding tour_by
by-none a e before l q = rw q

module _ (o : Points) (a e f : ℕ) (h : a < e) (r : First o.marks a e f) where
  some-tour : f < e → tour_of o a (e - 1) ≡ record { start = Point f; walk = from (f + 1) (e - f - 1) ++ from a (f - a) }
  unfolding tour_of
  some-tour l =
      let n = suc (e - 1) - a in
      let fa : a + (f - a) ≡ f = omega (arith, r.low) in
      let here : 0 < get_or o.marks (a + (f - a)) 0 = rw fa (r.here l) in
      let m = e - f - 1 in
      let nm : n - (f - a) ≡ suc m = omega (arith, r.low) in
      let cl : (z : ℕ) → z < a + (f - a) → a ≤ z → get_or o.marks z 0 ≡ 0 = λ z x y. r.clear z (omega (arith, r.low)) y in
      let p = front-clear o (f - a) a n (omega (arith, r.low)) cl ∙ ap (λ x. from a (f - a) ++ x) (front-on o (a + (f - a)) m (n - (f - a)) nm here)
      ∙ append-nil _ in
      let q = rest-clear o (f - a) a n (omega (arith, r.low)) cl ∙ rest-on o (a + (f - a)) m (n - (f - a)) nm here in
      let fs : suc (a + (f - a)) ≡ f + 1 = omega arith in
      by-some a (e - 1) _ _ _ _ q ∙ λ i. record { start = Point (fa i); walk = from (fs i) m ++ p i }

  none-tour : e ≤ f → tour_of o a (e - 1) ≡ record { start = Between (e - 1) a; walk = from a (e - a) }
  unfolding tour_of
  none-tour l =
      let n = suc (e - 1) - a in
      let na : n ≡ e - a = omega arith in
      let z0 : n - n ≡ 0 = omega arith in
      let q = rest-clear o n a n (omega arith) (λ z x y. r.clear z (omega (arith, r.high)) y) ∙ ap (λ k. rest o (from (a + n) k)) z0 ∙ rest-none o (a + n) in
      by-none a (e - 1) _ _ q ∙ λ i. record { start = Between (e - 1) a; walk = from a (na i) }

-- ---- the walks go around
-- below the end
around-low : (a e i : ℕ) → i < e → around a e i ≡ i
around-low a e i h = rw (lt-ltb i e h)

-- come around
around-high : (a e i : ℕ) → e ≤ i → around a e i ≡ i - e + a
around-high a e i h = rw (le-ltb i e h)

-- the place j of two stretches one behind the other
at-two : (f m a n j : ℕ) → j < m + n → (j < m → get_or (from f m ++ from a n) j 0 ≡ f + j) × (m ≤ j → get_or (from f m ++ from a n) j 0 ≡ a + (j - m))
at-two f m a n j x = (
  λ l. get_or-append (from f m) (from a n) 0 j (omega (arith, length_from f m)) ∙ at_from f m j l,
  λ l. ap (λ k. get_or (from f m ++ from a n) k 0) (omega (arith, length_from f m)) ∙ get_or-append-add (from f m) (from a n) (j - m) 0
      ∙ at_from a n (j - m) (omega arith),
)

module _ (a e f : ℕ) (h : a < e) (low : a ≤ f) (l : f < e) where
  each-some : (j : ℕ) → j < e - a - 1 → get_or (from (f + 1) (e - f - 1) ++ from a (f - a)) j 0 ≡ around a e (f + 1 + j)
  each-some j x =
      let t = at-two (f + 1) (e - f - 1) a (f - a) j (omega arith) in
      ⊎_elim (λ y. t.0 y ∙ sym (around-low a e (f + 1 + j) (omega arith)))
      (λ y. t.1 y ∙ omega arith ∙ sym (around-high a e (f + 1 + j) (omega arith)))
      (lt-or-le j (e - f - 1))

  walk-some : Walk (from (f + 1) (e - f - 1) ++ from a (f - a)) a e (f + 1) (e - a - 1)
  walk-some =
      record {
        len = length-append (from (f + 1) (e - f - 1)) (from a (f - a)) ∙ omega (arith, length_from (f + 1) (e - f - 1), length_from a (f - a));
        each = each-some;
        inside = omega arith;
        from_a = omega arith;
      }

-- with no on-curve point
walk_none : (a e : ℕ) → a < e → Walk (from a (e - a)) a e a (e - a)
walk_none a e h =
    record {
      len = length_from a (e - a);
      each = λ j x. at_from a (e - a) j x
          ∙ sym (around-low a e (a + j) (omega arith));
      inside = omega arith;
      from_a = omega arith;
    }

-- ---- what `tour_of` finds
module _ (o : Points) (a e f : ℕ) (h : a < e) (r : First o.marks a e f) where
  pub tour-some : f < e → (Point f ≡ (tour_of o a (e - 1)).start) × Inside e (Point f) × Walk (tour_of o a (e - 1)).walk a e (f + 1) (e - a - 1)
  tour-some l = (
    ap (λ (x : Tour). x.start) (sym (some-tour o a e f h r l)),
    l,
    subst (λ (w : Tour). Walk w.walk a e (f + 1) (e - a - 1)) (sym (some-tour o a e f h r l)) (walk-some a e f h r.low l),
  )

  pub tour-none : e ≤ f → (Between (e - 1) a ≡ (tour_of o a (e - 1)).start) × Inside e (Between (e - 1) a) × Walk (tour_of o a (e - 1)).walk a e a (e - a)
  tour-none l = (
    ap (λ (x : Tour). x.start) (sym (none-tour o a e f h r l)),
    (omega arith, h),
    subst (λ (w : Tour). Walk w.walk a e a (e - a)) (sym (none-tour o a e f h r l)) (walk_none a e h),
  )

-- what is below a smaller count
pub inside-more : (n m : ℕ) → n ≤ m → (s : Spot) → Inside n s → Inside m s
inside-more n m h (Point i) l = omega arith
inside-more n m h (Between i j) l = (omega (arith, l.0), omega (arith, l.1))
