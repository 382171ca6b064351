-- Where a strong point comes to against an edge, on edges whose font positions and positions do not fall: behind the edge by its font position it does not end
-- in front of it, and in front of it
-- not behind it.
use mathlib.Core.Path.{◌≡◌, refl, sym, ◌∙◌}
use mathlib.Core.Bool.{Bool, true, false, cond}
use mathlib.Core.Logic.{◌⊎◌, inl, inr, ⊎_elim}
use Prim.Native.Nat.{ℕ, ◌-◌, ◌≤◌, ◌<◌}
use native.Mathlib.Omega.{arith}
use lib.IntN.{ℤ, ◌+ℤ◌, ◌-ℤ◌}
use lib.Signed.{le_z, ◌≤ℤ◌, ◌<ℤ◌}
use Rattle.signed.specs.Equality.{eq_z}
use Rattle.signed.proofs.Signed.{one-zero, sub-law, add-law, to-≤ℤ, is-≤ℤ, eq_z-true, eq_z-apart, lt-or-le}
use Rattle.signed.proofs.Order.{of-≤ℤ, of-<ℤ, to-<ℤ, of-≡}
use Rattle.axis.specs.declared.edge.Axis.{Axis}
use Rattle.axis.specs.Edge.{edge_at}
use Rattle.axis.specs.Limits.{most_pos}
use Rattle.axis.specs.Refusals.{within}
use Rattle.fixed.specs.Divide.{too_steep}
use Rattle.strong.specs.declared.place.Place.{Place}
use Rattle.strong.specs.declared.place.Place.TheVariants.{At, Beyond}
use Rattle.strong.specs.Strong.{fpos_at, found, moved_with, between, on_or_before, place_of}
use Rattle.strong.specs.Steps.{Around, Rising, Shorts}
use Rattle.strong.proofs.Places.{step, inside, place-on, place-before, place-low, place-high, place_inside, lies-inside}
use Rattle.strong.proofs.Search.{around, strictly}

-- ---- what a position tells
at-is : {y z : ℤ} → ◌≡◌ {A = Place} (At y) (At z) → y ≡ z
at-is e = cc

-- with an edge
moved-is : (v o p z : ℤ) → moved_with v o p ≡ At z → z ≡ p +ℤ (v -ℤ o)
unfolding moved_with
moved-is v o p z e = by (within most_pos (p +ℤ (v -ℤ o))) e
  where
    by : (t : Bool) → cond t (At (p +ℤ (v -ℤ o))) Beyond ≡ At z → z ≡ p +ℤ (v -ℤ o)
    by true q = sym (at-is q)
    by false q = absurd (let n : ◌≡◌ {A = ℕ} 0 1 = cc in omega arith)

-- between two
between_is : (u f1 p1 f2 p2 z : ℤ) → between u f1 p1 f2 p2 ≡ At z → z ≡ p1 +ℤ step u f1 p1 f2 p2
unfolding between
between_is u f1 p1 f2 p2 z e = by (too_steep (p2 -ℤ p1) (f2 -ℤ f1)) e
  where
    by : (t : Bool) → cond t Beyond (At (p1 +ℤ step u f1 p1 f2 p2)) ≡ At z → z ≡ p1 +ℤ step u f1 p1 f2 p2
    by true q = absurd (let n : ◌≡◌ {A = ℕ} 0 1 = cc in omega arith)
    by false q = sym (at-is q)

module _ (axis : Axis) (rise : Rising axis) (short : Shorts axis) where
  -- the last edge
  abbrev last : ℕ
  last = axis.len - 1

  -- of two edges the one of lower font position stands first
  stands-first : (i j : ℕ) → i < axis.len → fpos_at axis i <ℤ fpos_at axis j → i < j
  stands-first i j h l =
      ⊎_elim (λ (o : i < j). o) (λ (o : j ≤ i). absurd (omega (arith, of-<ℤ _ _ l, of-≤ℤ _ _ (rise.fpos j i o h)))) (lt-or-le i j)

  -- ---- inside the edges, by the edge j that is found
  module _ (u z : ℤ) (j : ℕ) (a : Around axis u j) (e : on_or_before axis u j ≡ At z) where
    abbrev p1 : ℤ
    p1 = (edge_at axis (j - 1)).pos

    abbrev p2 : ℤ
    p2 = (edge_at axis j).pos

    -- strictly between the edge before it and it, and then not beyond either's position
    record Within : Type 0 where
      low : fpos_at axis (j - 1) <ℤ u
      high : u <ℤ fpos_at axis j
      not_below : p1 ≤ℤ z
      not_above : z ≤ℤ p2

    -- or on it
    record On : Type 0 where
      same : u ≡ fpos_at axis j
      there : z ≡ p2

    -- it is one of the two
    ways : On ⊎ Within
    ways = by (eq_z u (fpos_at axis j)) refl
      where
        by : (t : Bool) → eq_z u (fpos_at axis j) ≡ t → On ⊎ Within
        by true q = let s = eq_z-true u (fpos_at axis j) q in inl (record { same = s; there = at-is (sym e ∙ place-on axis u j s) })
        by false q =
            let n = eq_z-apart u (fpos_at axis j) q in
            let b = strictly axis u j a n in
            let s = step u (fpos_at axis (j - 1)) p1 (fpos_at axis j) p2 in
            let i = inside u (fpos_at axis (j - 1)) p1 (fpos_at axis j) p2 b.0 b.1 (short (j - 1) (omega (arith, a.inside))) (short j a.inside) in
            let y = of-≡ z _ (between_is u _ _ _ _ z (sym (place-before axis u j n) ∙ e)) in
            let g = of-≤ℤ p1 p2 (rise.pos (j - 1) j (omega arith) a.inside) in
            inr (record {
              low = b.0;
              high = b.1;
              not_below = to-≤ℤ p1 z (omega (arith, y, add-law p1 s, i.not_below, sub-law p2 p1, one-zero (p2 -ℤ p1), g));
              not_above = to-≤ℤ z p2 (omega (arith, y, add-law p1 s, i.not_above, sub-law p2 p1, one-zero (p2 -ℤ p1), g));
            })

    -- an edge k in front of u is not behind z, and one behind u not in front of it
    inner-over : (k : ℕ) → k < axis.len → fpos_at axis k <ℤ u → (edge_at axis k).pos ≤ℤ z
    inner-over k h l = by ways
      where
        by : On ⊎ Within → (edge_at axis k).pos ≤ℤ z
        by (inl o) =
            let f = stands-first k j h (rw o.same at l) in
            to-≤ℤ _ z (omega (arith, of-≡ z _ o.there, of-≤ℤ _ _ (rise.pos k j (omega arith) a.inside)))
        by (inr o) =
            let f = stands-first k j h (to-<ℤ _ _ (omega (arith, of-<ℤ _ u l, of-<ℤ u _ o.high))) in
            to-≤ℤ _ z (omega (arith, of-≤ℤ p1 z o.not_below, of-≤ℤ _ _ (rise.pos k (j - 1) (omega arith) (omega (arith, a.inside)))))

    inner-under : (k : ℕ) → k < axis.len → u <ℤ fpos_at axis k → z ≤ℤ (edge_at axis k).pos
    inner-under k h l = by ways
      where
        by : On ⊎ Within → z ≤ℤ (edge_at axis k).pos
        by (inl o) =
            let f = stands-first j k a.inside (rw o.same at l) in
            to-≤ℤ z _ (omega (arith, of-≡ z _ o.there, of-≤ℤ _ _ (rise.pos j k (omega arith) h)))
        by (inr o) =
            let f = stands-first (j - 1) k (omega (arith, a.inside)) (to-<ℤ _ _ (omega (arith, of-<ℤ _ u o.low, of-<ℤ u _ l))) in
            to-≤ℤ z _ (omega (arith, of-≤ℤ z p2 o.not_above, of-≤ℤ _ _ (rise.pos j k (omega (arith, a.behind_one)) h)))

  -- ---- anywhere
  module _ (u v z : ℤ) (e : place_of axis u v ≡ At z) (k : ℕ) (h : k < axis.len) where
    -- an edge is there
    some : axis.len ≡ 0 → ⊥
    some q = omega arith

    -- at or below the first, and at or above the last
    low-is : le_z u (fpos_at axis 0) ≡ true → z ≡ (edge_at axis 0).pos +ℤ (v -ℤ (edge_at axis 0).opos)
    low-is s = moved-is _ _ _ z (sym (place-low axis u v some s) ∙ e)

    high_is : le_z u (fpos_at axis 0) ≡ false → le_z (fpos_at axis last) u ≡ true → z ≡ (edge_at axis last).pos +ℤ (v -ℤ (edge_at axis last).opos)
    high_is s t = moved-is _ _ _ z (sym (place-high axis u v some s t) ∙ e)

    -- a point behind edge k, whose original is not below the last edge's where it is at or above that, ends at the edge or behind it
    pub over-edge : fpos_at axis k <ℤ u → (fpos_at axis last ≤ℤ u → (edge_at axis last).opos ≤ℤ v) → (edge_at axis k).pos ≤ℤ z
    over-edge l above = by (le_z u (fpos_at axis 0)) (le_z (fpos_at axis last) u) refl refl
      where
        by : (s t : Bool) → le_z u (fpos_at axis 0) ≡ s → le_z (fpos_at axis last) u ≡ t → (edge_at axis k).pos ≤ℤ z
        by true t p q = absurd (omega (arith, of-<ℤ _ u l, of-≤ℤ u _ (is-≤ℤ u _ p), of-≤ℤ _ _ (rise.fpos 0 k (omega arith) h)))
        by false true p q =
            let o = (edge_at axis last).opos in
            let x = (edge_at axis last).pos in
            to-≤ℤ _ z
            (omega (
              arith,
              of-≡ z _ (high_is p q),
              add-law x (v -ℤ o),
              sub-law v o,
              of-≤ℤ o v (above (is-≤ℤ _ u q)),
              of-≤ℤ _ x
                  (rise.pos k last (omega arith) (omega arith)),
            ))
        by false false p q = inner-over u z (found axis u) (around axis u (lies-inside axis u p q)) (sym (place_inside axis u v some p q) ∙ e) k h l

    -- one in front of it, whose original is not above the first edge's where it is at or below that, ends at the edge or in front of it
    pub under-edge : u <ℤ fpos_at axis k → (u ≤ℤ fpos_at axis 0 → v ≤ℤ (edge_at axis 0).opos) → z ≤ℤ (edge_at axis k).pos
    under-edge l below = by (le_z u (fpos_at axis 0)) (le_z (fpos_at axis last) u) refl refl
      where
        by : (s t : Bool) → le_z u (fpos_at axis 0) ≡ s → le_z (fpos_at axis last) u ≡ t → z ≤ℤ (edge_at axis k).pos
        by true t p q =
            let o = (edge_at axis 0).opos in
            let x = (edge_at axis 0).pos in
            to-≤ℤ z _ (omega (
              arith,
              of-≡ z _ (low-is p),
              add-law x (v -ℤ o),
              sub-law v o,
              of-≤ℤ v o (below (is-≤ℤ u _ p)),
              of-≤ℤ x _
                  (rise.pos 0 k (omega arith) h),
            ))
        by false true p q =
            absurd (omega (arith, of-<ℤ u _ l, of-≤ℤ _ u (is-≤ℤ (fpos_at axis last) u q), of-≤ℤ _ _ (rise.fpos k last (omega arith) (omega arith))))
        by false false p q = inner-under u z (found axis u) (around axis u (lies-inside axis u p q)) (sym (place_inside axis u v some p q) ∙ e) k h l
