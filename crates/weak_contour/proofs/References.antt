-- The references of a point: which they are in each place of a contour, and how they say how many of its points are touched.
use mathlib.Core.Path.{◌≡◌, refl, sym, ◌∙◌, ap, subst}
use mathlib.Core.List.{List}
use mathlib.Core.Logic.{◌⊎◌, inl, inr, ⊎_elim}
use mathlib.Core.Option.{Option, some, none}
use Prim.Native.Nat.{ℕ, suc, ◌+◌, ◌-◌, ◌≤◌, ◌<◌}
use native.Mathlib.Nat.{eq-or-lt_of_le}
use native.Mathlib.Omega.{arith}
use lib.ListN.{get_or}
use Rattle.signed.proofs.Signed.{lt-or-le}
use Rattle.weak_contour.specs.Contour.{first_touched, last_touched, Contour, touched_before, touched_behind, References, refs, paired, references}
use Rattle.weak_contour.specs.Steps.{Clear}
use Rattle.weak_contour.proofs.Searches.{
  Last,
  last_some,
  last_none,
  last_is,
  last-clear,
  First,
  first_some,
  first-none,
  first_is,
  first-clear,
  found-by,
  not_found,
}

-- ---- the references of a point in each place of a contour
module _ (t : List ℕ) (k : Contour) (i : ℕ) (inside : k.start ≤ i) (below : i < k.end) where
  -- between two touched points
  pub refs-gap : (p q : ℕ) → k.start ≤ p → p < i → i < q → q < k.end → 0 < get_or t p 0 → 0 < get_or t q 0 → Clear t (suc p) q
      → references t k i ≡ some (refs p q)
  unfolding references touched_before touched_behind
  refs-gap p q s a b h mp mq z =
      rw (
        last_some t k.start p (i - k.start) s (omega arith) mp (λ j x y. z j (omega arith) y),
        first_some t (suc i) (k.end - suc i) q b (omega arith) mq (λ j x y. z j x (omega arith)),
      )

  module _ (f l : ℕ) (start : k.start ≤ f) (order : f ≤ l) (end : l < k.end) (mf : 0 < get_or t f 0) (ml : 0 < get_or t l 0)
      (none-front : Clear t k.start f) (none-behind : Clear t (suc l) k.end) where
    -- behind the last touched point l: the first, f, follows around the contour
    pub refs-behind : l < i → references t k i ≡ some (refs l f)
    unfolding references touched_before touched_behind
    refs-behind a =
        rw (
          last_some t k.start l (i - k.start) (omega arith) (omega arith) ml (λ j x y. none-behind j (omega arith) y),
          first-none t (suc i) (k.end - suc i) (λ j x y. none-behind j (omega arith) (omega arith)),
          first_some t k.start (k.end - k.start) f start (omega arith) mf none-front,
        )

    -- in front of the first touched point f: the last, l, precedes around the contour
    pub refs-front : i < f → references t k i ≡ some (refs l f)
    unfolding references touched_before touched_behind
    refs-front a =
        rw (
          last_none t k.start (i - k.start) (λ j x y. none-front j (omega arith) y),
          last_some t k.start l (k.end - k.start) (omega arith) (omega arith) ml (λ j x y. none-behind j (omega arith) y),
          first_some t (suc i) (k.end - suc i) f a (omega arith) mf (λ j x y. none-front j x (omega arith)),
        )

  -- on a contour with no touched point
  pub refs-none : Clear t k.start k.end → references t k i ≡ none
  unfolding references touched_before
  refs-none z =
      rw (
        last_none t k.start (i - k.start) (λ j x y. z j (omega arith) y),
        last_none t k.start (k.end - k.start) (λ j x y. z j (omega arith) y),
      )

-- a touched point that is neither in front of p nor behind it is p
pinch : (t : List ℕ) (z p : ℕ) → 0 < get_or t z 0 → (z < p → get_or t z 0 ≡ 0) → (p < z → get_or t z 0 ≡ 0) → z ≡ p
pinch t z p m f b = ⊎_elim (λ l. absurd (omega (arith, f l))) (λ l. ⊎_elim (λ q. sym q) (λ g. absurd (omega (arith, b g))) (eq-or-lt_of_le l)) (lt-or-le z p)

-- ---- what the references of a point say of its contour
module _ (t : List ℕ) (k : Contour) (i : ℕ) (inside : k.start ≤ i) (below : i < k.end) where
  -- the ends of the three stretches that are searched
  up_to : k.start + (i - k.start) ≡ i
  up_to = omega arith

  all : k.start + (k.end - k.start) ≡ k.end
  all = omega arith

  from_on : suc i + (k.end - suc i) ≡ k.end
  from_on = omega arith

  -- how the touched point before i was found
  before-cases : (p : ℕ) → touched_before t k i ≡ some p → Last t k.start i p ⊎ (Clear t k.start i × Last t k.start k.end p)
  unfolding touched_before
  before-cases p e =
      ⊎_elim (λ a. inl (rw up_to at (last_is t k.start (i - k.start) p a)))
      (λ a. inr (rw up_to at (last-clear t k.start (i - k.start) a.0), rw all at (last_is t k.start (k.end - k.start) p a.1)))
      (found-by (last_touched t k.start (i - k.start)) (last_touched t k.start (k.end - k.start)) p e)

  -- how the touched point behind i was found
  behind-cases : (p : ℕ) → touched_behind t k i ≡ some p → First t (suc i) k.end p ⊎ (Clear t (suc i) k.end × First t k.start k.end p)
  unfolding touched_behind
  behind-cases p e =
      ⊎_elim (λ a. inl (rw from_on at (first_is t (suc i) (k.end - suc i) p a)))
      (λ a. inr (rw from_on at (first-clear t (suc i) (k.end - suc i) a.0), rw all at (first_is t k.start (k.end - k.start) p a.1)))
      (found-by (first_touched t (suc i) (k.end - suc i)) (first_touched t k.start (k.end - k.start)) p e)

  -- both are touched points of the contour
  before_on : (p : ℕ) → touched_before t k i ≡ some p → (k.start ≤ p) × (p < k.end) × (0 < get_or t p 0)
  before_on p e = ⊎_elim (λ l. (l.low, omega (arith, l.high), l.mark)) (λ l. (l.1.low, l.1.high, l.1.mark)) (before-cases p e)

  behind-on : (p : ℕ) → touched_behind t k i ≡ some p → (k.start ≤ p) × (p < k.end) × (0 < get_or t p 0)
  behind-on p e = ⊎_elim (λ f. (omega (arith, f.low), f.high, f.mark)) (λ f. (f.1.low, f.1.high, f.1.mark)) (behind-cases p e)

  -- where none was found, no point of the contour is touched
  before-none : touched_before t k i ≡ none → Clear t k.start k.end
  unfolding touched_before
  before-none e =
      rw all at (last-clear t k.start (k.end - k.start)
      (not_found (last_touched t k.start (i - k.start)) (last_touched t k.start (k.end - k.start)) e))

  behind-none : touched_behind t k i ≡ none → Clear t k.start k.end
  unfolding touched_behind
  behind-none e =
      rw all at (first-clear t k.start (k.end - k.start)
      (not_found (first_touched t (suc i) (k.end - suc i)) (first_touched t k.start (k.end - k.start)) e))

  -- i itself is untouched, and z is a touched point of the contour
  module _ (free : get_or t i 0 ≡ 0) (z : ℕ) (start : k.start ≤ z) (end : z < k.end) (mark : 0 < get_or t z 0) where
    -- a point in front of i and a point behind it are the cases of z
    beside : (z < i → get_or t z 0 ≡ 0) → (i < z → get_or t z 0 ≡ 0) → get_or t z 0 ≡ 0
    beside f b = ⊎_elim f (λ l. ⊎_elim (λ e. subst (λ (x : ℕ). get_or t x 0 ≡ 0) e free) b (eq-or-lt_of_le l)) (lt-or-le z i)

    -- where both references are p, z is p
    only : (p : ℕ) → touched_before t k i ≡ some p → touched_behind t k i ≡ some p → z ≡ p
    only p e f = by (before-cases p e) (behind-cases p f)
      where
        by : Last t k.start i p ⊎ (Clear t k.start i × Last t k.start k.end p)
            → First t (suc i) k.end p ⊎ (Clear t (suc i) k.end × First t k.start k.end p) → z ≡ p
        by (inl l) (inl g) = absurd (omega (arith, l.high, g.low))
        by (inl l) (inr g) = pinch t z p mark (λ y. g.1.clear z y start) (λ y. beside (λ x. l.clear z x y) (λ x. g.0 z end x))
        by (inr l) (inl g) = pinch t z p mark (λ y. beside (λ x. l.0 z x start) (λ x. g.clear z y x)) (λ y. l.1.clear z end y)
        by (inr l) (inr g) = absurd (omega (arith, beside (λ x. l.0 z x start) (λ x. g.0 z end x)))

  -- the references are touched points of the contour
  pub refs-on : (r : References) → references t k i ≡ some r
      → ((k.start ≤ r.before) × (r.before < k.end) × (0 < get_or t r.before 0))
      × ((k.start ≤ r.behind) × (r.behind < k.end) × (0 < get_or t r.behind 0))
  unfolding references
  refs-on r e = by (touched_before t k i) (touched_behind t k i) refl refl e
    where
      by : (x y : Option ℕ) → touched_before t k i ≡ x → touched_behind t k i ≡ y → paired x y ≡ some r
          → ((k.start ≤ r.before) × (r.before < k.end) × (0 < get_or t r.before 0))
          × ((k.start ≤ r.behind) × (r.behind < k.end) × (0 < get_or t r.behind 0))
      by none y ex ey q = let w : ◌≡◌ {A = ℕ} 0 1 = cc in absurd (omega arith)
      by (some a) none ex ey q = let w : ◌≡◌ {A = ℕ} 0 1 = cc in absurd (omega arith)
      by (some a) (some b) ex ey q =
          let g : refs a b ≡ r = cc in
          (before_on r.before (ex ∙ ap (λ (r : References). some r.before) g), behind-on r.behind (ey ∙ ap (λ (r : References). some r.behind) g))

  -- where there are none, no point is touched
  pub refs-missing : references t k i ≡ none → Clear t k.start k.end
  unfolding references
  refs-missing e = by (touched_before t k i) (touched_behind t k i) refl refl e
    where
      by : (x y : Option ℕ) → touched_before t k i ≡ x → touched_behind t k i ≡ y → paired x y ≡ none → Clear t k.start k.end
      by none y ex ey q = before-none ex
      by (some p) none ex ey q = behind-none ey
      by (some p) (some u) ex ey q = let z : ◌≡◌ {A = ℕ} 0 1 = cc in absurd (omega arith)

  -- where they are the same point, no other is touched
  pub refs-same : (p : ℕ) → get_or t i 0 ≡ 0 → references t k i ≡ some (refs p p) → (z : ℕ) → k.start ≤ z → z < k.end → 0 < get_or t z 0 → z ≡ p
  unfolding references
  refs-same p free e z start end mark = by (touched_before t k i) (touched_behind t k i) refl refl e
    where
      by : (x y : Option ℕ) → touched_before t k i ≡ x → touched_behind t k i ≡ y → paired x y ≡ some (refs p p) → z ≡ p
      by none y ex ey q = let w : ◌≡◌ {A = ℕ} 0 1 = cc in absurd (omega arith)
      by (some a) none ex ey q = let w : ◌≡◌ {A = ℕ} 0 1 = cc in absurd (omega arith)
      by (some a) (some b) ex ey q =
          let g : refs a b ≡ refs p p = cc in
          only free z start end mark p (ex ∙ ap (λ (r : References). some r.before) g) (ey ∙ ap (λ (r : References). some r.behind) g)
