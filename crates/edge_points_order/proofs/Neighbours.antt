-- Points that edges in order have placed, and weak points behind them: touched points are in order, and so is an untouched one with its neighbours.
use mathlib.Core.Path.{◌≡◌, refl, sym, ap, subst, ◌∙◌}
use mathlib.Core.Bool.{Bool, true, false}
use mathlib.Core.List.{List}
use mathlib.Core.Logic.{◌⊎◌, inl, inr, ⊎_elim}
use mathlib.Core.Option.{Option, some, none}
use Prim.Native.Nat.{ℕ, ◌≤◌, ◌<◌}
use native.Mathlib.Omega.{arith}
use lib.ListN.{length, get_or-eq_default}
use lib.IntN.{ℤ, pos, ◌+ℤ◌, ◌-ℤ◌}
use lib.Signed.{lt_z, ◌≤ℤ◌, ◌<ℤ◌}
use Rattle.signed.specs.Equality.{eq_z}
use Rattle.signed.proofs.Signed.{signed, add-law, same, atmost, to-≡, is-<ℤ, lt-or-le, eq_z-true}
use Rattle.axis.specs.declared.edge.Axis.{Axis}
use Rattle.axis.proofs.Walks.{same?}
use Rattle.weak_contour.specs.Contour.{at, Contour, is_touched, References, refs, first_of, second_of, between_at, shifted_at, weak_at}
use Rattle.weak_contour.specs.Steps.{Ordered}
use Rattle.weak_contour.proofs.Points.{weak-touched, weak-one, weak-two}
use Rattle.weak_contour.proofs.References.{refs-on}
use Rattle.weak_contour.proofs.Searches.{marked, unmarked, is-touched}
use Rattle.weak.specs.Weak.{contour_of, on_contour, aligned_at, Outcome}
use Rattle.weak.specs.Steps.{Accepted}
use Rattle.weak.specs.Faithful.{KeepsOrder}
use Rattle.weak.proofs.Contours.{contour-holds}
use Rattle.weak.proofs.Faithful.{demand_3}
use Rattle.weak.proofs.Neighbours.{refs-ordered}
use Rattle.weak.proofs.Determined.{result-at}
use Rattle.weak.proofs.Refusals.{accepted}
use Rattle.edge_points_order.specs.Order.{
  EdgesInOrder,
  EdgesApart,
  OnePosition,
  PlacedBy,
  PlacedByEdges,
  Beside,
  Parted,
  PointsInOrder,
  Gained,
  PointsApart,
}
use Rattle.edge_points_order.proofs.Between.{under_first, under-second, over_first, over-second}

-- ---- references by their names
-- one of the two is the first or the second
named : (o : List ℤ) (r : References) (p : ℕ) → (p ≡ r.before) ⊎ (p ≡ r.behind) → (p ≡ first_of o r) ⊎ (p ≡ second_of o r)
unfolding first_of second_of
named o r p e = by (lt_z (at o r.behind) (at o r.before)) refl e
  where
    by : (b : Bool) → lt_z (at o r.behind) (at o r.before) ≡ b → (p ≡ r.before) ⊎ (p ≡ r.behind) → (p ≡ first_of o r) ⊎ (p ≡ second_of o r)
    by true q (inl f) = rw q (inr f)
    by true q (inr f) = rw q (inl f)
    by false q (inl f) = rw q (inl f)
    by false q (inr f) = rw q (inr f)

-- by the only touched point every other is shifted, whether that moved or not, where it stood still
shifted : (o c : List ℤ) (p i : ℕ) → at c i ≡ at o i → shifted_at o c p i ≡ at o i +ℤ (at c p -ℤ at o p)
unfolding shifted_at
shifted o c p i s = by (eq_z (at c p) (at o p)) refl
  where
    by : (b : Bool) → eq_z (at c p) (at o p) ≡ b → shifted_at o c p i ≡ at o i +ℤ (at c p -ℤ at o p)
    by true q = let e = eq_z-true (at c p) (at o p) q in rw q (s ∙ same (omega (arith, signed)))
    by false q = rw q refl

-- what passes a number by one unit at most passes none above it
one_more : (x y z : ℤ) → x ≤ℤ (y +ℤ pos 1) → y <ℤ z → x ≤ℤ z
one_more x y z h l = omega (arith, signed, add-law y (pos 1))

module _ (axis : Axis) (o c d : List ℤ) (t es : List ℕ) (order : EdgesInOrder axis) (placed : PlacedByEdges axis o c t) (outcome : Outcome o c t es 0 d) where
  -- the outline is accepted
  good : Accepted o c t es
  good = accepted o c t es (sym outcome.answer)

  -- where its points come to
  comes-to : (i : ℕ) → i < length o → at d i ≡ aligned_at o c t es i
  comes-to i h = ap (λ (l : List ℤ). at l i) outcome.currents ∙ result-at o c t es (sym outcome.answer) i (omega (arith, good.currents_length))

  on-contour : (i : ℕ) (k : Contour) → contour_of 0 es i ≡ some k → at d i ≡ weak_at o c t k i
  unfolding aligned_at on_contour
  on-contour i k on = let h = contour-holds 0 (length o) i es k (omega arith) good.ends on in comes-to i (omega (arith, h)) ∙ rw on

  -- ---- touched points
  -- one is a point of the outline
  inside : (p : ℕ) → is_touched t p ≡ true → p < length o
  inside p m =
      ⊎_elim (λ l. l) (λ g. let z = get_or-eq_default t 0 {n = p} (omega (arith, good.marks_length)) in absurd (omega (arith, marked t p m)))
      (lt-or-le p (length o))

  -- it stays
  stays : (p : ℕ) → is_touched t p ≡ true → at d p ≡ at c p
  unfolding aligned_at on_contour
  stays p m = comes-to p (inside p m) ∙ by (contour_of 0 es p) refl
    where
      by : (k : Option Contour) → contour_of 0 es p ≡ k → aligned_at o c t es p ≡ at c p
      by none e = rw e
      by (some k) e = rw e (weak-touched o c t k p (marked t p m))

  -- two of them are in order
  currents-rise : (p q : ℕ) → is_touched t p ≡ true → is_touched t q ≡ true → at o p <ℤ at o q → at c p ≤ℤ at c q
  currents-rise p q m n l =
      let a = placed.touched p m in
      let b = placed.touched q n in
      rw (a.is, b.is) (order.at a.edge b.edge a.there b.there a.done b.done (rw (a.was, b.was) at l))

  -- two references are, but for the exception
  refs-rise : (r : References) → is_touched t r.before ≡ true → is_touched t r.behind ≡ true → Parted o c r ⊎ (at c (first_of o r) ≤ℤ at c (second_of o r))
  unfolding first_of second_of
  refs-rise r m n =
      by (lt_z (at o r.behind) (at o r.before)) (lt_z (at o r.before) (at o r.behind)) (lt_z (at c r.behind) (at c r.before)) refl refl refl
    where
      by : (x y z : Bool) → lt_z (at o r.behind) (at o r.before) ≡ x → lt_z (at o r.before) (at o r.behind) ≡ y
          → lt_z (at c r.behind) (at c r.before) ≡ z
          → Parted o c r ⊎ (at c (first_of o r) ≤ℤ at c (second_of o r))
      by true y z e f g = rw e (inr (currents-rise r.behind r.before n m (is-<ℤ _ _ e)))
      by false true z e f g = rw e (inr (currents-rise r.before r.behind m n (is-<ℤ _ _ f)))
      by false false true e f g = inl (record { equal = to-≡ _ _ (omega (arith, signed)); higher = is-<ℤ _ _ g })
      by false false false e f g = rw e (inr (omega (arith, signed)))

  -- ---- an untouched point and a neighbour
  module _ (i p : ℕ) (b : Beside t es i p) where
    -- the references are touched
    refs-touched : (is_touched t b.by.before ≡ true) × (is_touched t b.by.behind ≡ true)
    refs-touched =
        let h = contour-holds 0 (length o) i es b.contour (omega arith) good.ends b.on in
        let a = refs-on t b.contour i h.low h.high b.by b.nearest in
        (is-touched t b.by.before a.0.2, is-touched t b.by.behind a.1.2)

    neighbour-touched : is_touched t p ≡ true
    neighbour-touched =
        ⊎_elim (λ e. subst (λ (x : ℕ). is_touched t x ≡ true) (sym e) refs-touched.0)
        (λ e. subst (λ (x : ℕ). is_touched t x ≡ true) (sym e) refs-touched.1) b.is

    -- where there is one, it is the neighbour, and the point is shifted as that was moved
    one : b.by.before ≡ b.by.behind → at d i ≡ at o i +ℤ (at c p -ℤ at o p)
    one e =
        let q : p ≡ b.by.before = ⊎_elim (λ f. f) (λ f. f ∙ sym e) b.is in
        let n = b.nearest ∙ ap (λ (x : ℕ). some (refs b.by.before x)) (sym e) in
        rw q
        (on-contour i b.contour b.on ∙ weak-one o c t b.contour i b.by.before (unmarked t i b.untouched) n
        ∙ shifted o c b.by.before i (placed.others i b.untouched))

    -- where there are two, it goes between them
    abbrev first : ℕ
    first = first_of o b.by

    abbrev second : ℕ
    second = second_of o b.by

    ordered : Ordered (at o first) (at c first) (at o second) (at c second)
    ordered = refs-ordered o c b.by good.originals good.currents

    two : (b.by.before ≡ b.by.behind → ⊥) → at d i ≡ between_at o c b.by i
    two n = on-contour i b.contour b.on ∙ weak-two o c t b.contour i b.by.before b.by.behind (unmarked t i b.untouched) b.nearest n

    below : at o i <ℤ at o p → Parted o c b.by ⊎ KeepsOrder (at o i) (at o p) (at o first) (at o second) (at d i) (at d p)
    unfolding between_at
    below l =
        ⊎_elim alone (λ n. ⊎_elim (λ k. inl k) (λ k. inr (led n k (named o b.by p b.is))) (refs-rise b.by refs-touched.0 refs-touched.1))
        (same? b.by.before b.by.behind)
      where
        alone : b.by.before ≡ b.by.behind → Parted o c b.by ⊎ KeepsOrder (at o i) (at o p) (at o first) (at o second) (at d i) (at d p)
        alone e = inr (inl (rw (one e, stays p neighbour-touched) (atmost (omega (arith, signed)))))

        led : (b.by.before ≡ b.by.behind → ⊥) → at c first ≤ℤ at c second → (p ≡ first) ⊎ (p ≡ second)
            → KeepsOrder (at o i) (at o p) (at o first) (at o second) (at d i) (at d p)
        led n k (inl e) =
            inl (rw (two n, stays p neighbour-touched, e) (under_first (at o i) (at o first) (at c first) (at o second) (at c second) ordered k (rw e at l)))
        led n k (inr e) =
            rw (two n, stays p neighbour-touched, e) (under-second (at o i) (at o first) (at c first) (at o second) (at c second) ordered k (rw e at l))

    above : at o p <ℤ at o i → Parted o c b.by ⊎ (at d p ≤ℤ at d i)
    unfolding between_at
    above l =
        ⊎_elim alone (λ n. ⊎_elim (λ k. inl k) (λ k. inr (led n k (named o b.by p b.is))) (refs-rise b.by refs-touched.0 refs-touched.1))
        (same? b.by.before b.by.behind)
      where
        alone : b.by.before ≡ b.by.behind → Parted o c b.by ⊎ (at d p ≤ℤ at d i)
        alone e = inr (rw (one e, stays p neighbour-touched) (atmost (omega (arith, signed))))

        led : (b.by.before ≡ b.by.behind → ⊥) → at c first ≤ℤ at c second → (p ≡ first) ⊎ (p ≡ second) → at d p ≤ℤ at d i
        led n k (inl e) =
            rw (two n, stays p neighbour-touched, e) (over_first (at o i) (at o first) (at c first) (at o second) (at c second) ordered k (rw e at l))
        led n k (inr e) =
            rw (two n, stays p neighbour-touched, e) (over-second (at o i) (at o first) (at c first) (at o second) (at c second) ordered k (rw e at l))

    -- where done edges of one original position are at one position, there is no such exception
    pub not-parted : OnePosition axis → Parted o c b.by → ⊥
    not-parted one k =
        let x = placed.touched b.by.before refs-touched.0 in
        let y = placed.touched b.by.behind refs-touched.1 in
        let e = x.is ∙ one.at x.edge y.edge x.there y.there x.done y.done (sym x.was ∙ k.equal ∙ y.was) ∙ sym y.is in
        let h = k.higher in
        omega (arith, signed)

  -- ---- the whole
  pub points-in-order : PointsInOrder o c t es d
  points-in-order = record { touched = λ p q m n l. rw (stays p m, stays q n) (currents-rise p q m n l); below = below; above = above }

  ends-placed : (p : ℕ) → is_touched t p ≡ true → PlacedBy axis o d p
  ends-placed p m = let a = placed.touched p m in record { edge = a.edge; there = a.there; done = a.done; was = a.was; is = stays p m ∙ a.is }

  pub gained : Gained axis o c t es d
  gained = record { demand_3 = demand_3 o c d t es outcome; placed = ends-placed; in_order = points-in-order }

  -- ---- edges that are apart
  module _ (apart : EdgesApart axis) where
    touched-apart : (p q : ℕ) → is_touched t p ≡ true → is_touched t q ≡ true → at o p <ℤ at o q → at d p <ℤ at d q
    touched-apart p q m n l =
        let a = ends-placed p m in
        let b = ends-placed q n in
        rw (a.is, b.is) (apart.at a.edge b.edge a.there b.there a.done b.done (rw (a.was, b.was) at l))

    pub points-apart : PointsApart o c t es d
    points-apart = record {
      touched = touched-apart;
      below = λ i p q b n l k.
          let f = touched-apart p q (neighbour-touched i p b) n k in
          ⊎_elim (λ e. inl e) (λ e. inr (⊎_elim (λ x. omega (arith, signed)) (λ x. one_more (at d i) (at d p) (at d q) x.1 f) e)) (below i p b l);
      above =
          λ i p q b n k l. let f = touched-apart q p n (neighbour-touched i p b) k in ⊎_elim (λ e. inl e) (λ x. inr (omega (arith, signed))) (above i p b l);
    }
