-- Points keep their order: on edges whose font positions and positions do not fall, two points in one order by font positions and originals end in it, no unit
-- lost.
use mathlib.Core.Path.{◌≡◌, refl, sym, ap, subst, ◌∙◌}
use mathlib.Core.Bool.{Bool, true, false, cond}
use mathlib.Core.Logic.{◌⊎◌, inl, inr, ⊎_elim}
use Prim.Native.Nat.{ℕ, ◌+◌, ◌-◌, ◌≤◌, ◌<◌}
use native.Mathlib.Nat.{eq-or-lt_of_le}
use native.Mathlib.Omega.{arith}
use lib.IntN.{ℤ, pos, ◌+ℤ◌, ◌-ℤ◌}
use lib.Signed.{le_z, ◌≤ℤ◌, ◌<ℤ◌}
use Rattle.signed.specs.Equality.{eq_z}
use Rattle.signed.specs.Parts.{up, dn}
use Rattle.signed.proofs.Signed.{one-zero, sub-law, add-law, to-≤ℤ, to-≡, is-≤ℤ, eq_z-true, eq_z-apart, lt-or-le}
use Rattle.signed.proofs.Order.{of-≤ℤ, of-<ℤ, to-<ℤ, of-≡, le-false}
use Rattle.axis.specs.declared.edge.Axis.{Axis}
use Rattle.axis.specs.Edge.{edge_at}
use Rattle.axis.specs.Limits.{most_pos}
use Rattle.axis.specs.Refusals.{within}
use Rattle.fixed.specs.Point.{mul_fix}
use Rattle.fixed.specs.Divide.{too_steep}
use Rattle.fixed.proofs.Interpolation as Interpolation
use Rattle.fixed.proofs.Rounding.{mul-grows}
use Rattle.strong.specs.declared.place.Place.{Place}
use Rattle.strong.specs.declared.place.Place.TheVariants.{Stays, At, Beyond}
use Rattle.strong.specs.Strong.{fpos_at, found, moved_with, between, on_or_before, place_of}
use Rattle.strong.specs.Steps.{Around, Rising, Shorts}
use Rattle.strong.proofs.Places.{step, inside, place-on, place-before, place_none, place-low, place-high, place_inside, lies-inside}
use Rattle.strong.proofs.Search.{around, strictly}

-- ---- what a position tells
at-is : {y z : ℤ} → ◌≡◌ {A = Place} (At y) (At z) → y ≡ z
at-is e = cc

stays-not : {z : ℤ} → ◌≡◌ {A = Place} Stays (At z) → ⊥
stays-not e = let n : ◌≡◌ {A = ℕ} 0 1 = cc in omega arith

moved-is : (v o p z : ℤ) → moved_with v o p ≡ At z → z ≡ p +ℤ (v -ℤ o)
unfolding moved_with
moved-is v o p z e = by (within most_pos (p +ℤ (v -ℤ o))) e
  where
    by : (t : Bool) → cond t (At (p +ℤ (v -ℤ o))) Beyond ≡ At z → z ≡ p +ℤ (v -ℤ o)
    by true q = sym (at-is q)
    by false q = absurd (let n : ◌≡◌ {A = ℕ} 0 1 = cc in omega arith)

between_is : (u f1 p1 f2 p2 z : ℤ) → between u f1 p1 f2 p2 ≡ At z → z ≡ p1 +ℤ step u f1 p1 f2 p2
unfolding between
between_is u f1 p1 f2 p2 z e = by (too_steep (p2 -ℤ p1) (f2 -ℤ f1)) e
  where
    by : (t : Bool) → cond t Beyond (At (p1 +ℤ step u f1 p1 f2 p2)) ≡ At z → z ≡ p1 +ℤ step u f1 p1 f2 p2
    by true q = absurd (let n : ◌≡◌ {A = ℕ} 0 1 = cc in omega arith)
    by false q = sym (at-is q)

-- ---- inside the edges
-- the two ways to be there
record OnIt (axis : Axis) (u : ℤ) (k : ℕ) (z : ℤ) : Type 0 where
  same : u ≡ fpos_at axis k
  there : z ≡ (edge_at axis k).pos

record InFront (axis : Axis) (u : ℤ) (k : ℕ) (z : ℤ) : Type 0 where
  low : fpos_at axis (k - 1) <ℤ u
  high : u <ℤ fpos_at axis k
  there : z ≡ (edge_at axis (k - 1)).pos +ℤ step u (fpos_at axis (k - 1)) (edge_at axis (k - 1)).pos (fpos_at axis k) (edge_at axis k).pos

ways : (axis : Axis) (u : ℤ) (k : ℕ) (z : ℤ) → Around axis u k → on_or_before axis u k ≡ At z → OnIt axis u k z ⊎ InFront axis u k z
ways axis u k z a e = by (eq_z u (fpos_at axis k)) refl
  where
    by : (t : Bool) → eq_z u (fpos_at axis k) ≡ t → OnIt axis u k z ⊎ InFront axis u k z
    by true q = let s = eq_z-true u (fpos_at axis k) q in inl (record { same = s; there = at-is (sym e ∙ place-on axis u k s) })
    by false q =
        let n = eq_z-apart u (fpos_at axis k) q in
        let b = strictly axis u k a n in
        inr (record { low = b.0; high = b.1; there = between_is u _ _ _ _ z (sym (place-before axis u k n) ∙ e) })

module _ (axis : Axis) (rise : Rising axis) (short : Shorts axis) where
  -- what is in front of edge k lies between the two edges' positions
  module _ (u : ℤ) (k : ℕ) (z : ℤ) (a : Around axis u k) where
    climbs : (edge_at axis (k - 1)).pos ≤ℤ (edge_at axis k).pos
    climbs = rise.pos (k - 1) k (omega arith) a.inside

    not_above : OnIt axis u k z ⊎ InFront axis u k z → z ≤ℤ (edge_at axis k).pos
    not_above (inl o) = to-≤ℤ z _ (omega (arith, of-≡ z _ o.there))
    not_above (inr o) =
        let p1 = (edge_at axis (k - 1)).pos in
        let p2 = (edge_at axis k).pos in
        let s = step u (fpos_at axis (k - 1)) p1 (fpos_at axis k) p2 in
        let i = inside u (fpos_at axis (k - 1)) p1 (fpos_at axis k) p2 o.low o.high (short (k - 1) (omega (arith, a.inside))) (short k a.inside) in
        to-≤ℤ z p2 (omega (arith, of-≡ z _ o.there, add-law p1 s, i.not_above, sub-law p2 p1, one-zero (p2 -ℤ p1), of-≤ℤ p1 p2 climbs))

    not_below : OnIt axis u k z ⊎ InFront axis u k z → (edge_at axis (k - 1)).pos ≤ℤ z
    not_below (inl o) = to-≤ℤ _ z (omega (arith, of-≡ z _ o.there, of-≤ℤ _ _ climbs))
    not_below (inr o) =
        let p1 = (edge_at axis (k - 1)).pos in
        let p2 = (edge_at axis k).pos in
        let s = step u (fpos_at axis (k - 1)) p1 (fpos_at axis k) p2 in
        let i = inside u (fpos_at axis (k - 1)) p1 (fpos_at axis k) p2 o.low o.high (short (k - 1) (omega (arith, a.inside))) (short k a.inside) in
        to-≤ℤ p1 z (omega (arith, of-≡ z _ o.there, add-law p1 s, i.not_below, sub-law p2 p1, one-zero (p2 -ℤ p1), of-≤ℤ p1 p2 climbs))

  -- in front of one edge both, the one farther behind does not come in front of the other
  same-edge : (u u' : ℤ) (k : ℕ) (z z' : ℤ) → Around axis u k → u ≤ℤ u' → InFront axis u k z → InFront axis u' k z' → z ≤ℤ z'
  same-edge u u' k z z' a h o o' =
      let f1 = fpos_at axis (k - 1) in
      let f2 = fpos_at axis k in
      let p1 = (edge_at axis (k - 1)).pos in
      let p2 = (edge_at axis k).pos in
      let g =
      Interpolation.interpolation-grows (u -ℤ f1) (u' -ℤ f1) (p2 -ℤ p1) (f2 -ℤ f1) (omega (arith, sub-law u f1, of-<ℤ f1 u o.low))
      (omega (arith, sub-law u f1, sub-law u' f1, of-≤ℤ u u' h))
      (omega (arith, sub-law f2 f1, of-<ℤ f1 u o.low, of-<ℤ u f2 o.high))
      in
      let i = inside u f1 p1 f2 p2 o.low o.high (short (k - 1) (omega (arith, a.inside))) (short k a.inside) in
      let i' = inside u' f1 p1 f2 p2 o'.low o'.high (short (k - 1) (omega (arith, a.inside))) (short k a.inside) in
      to-≤ℤ z z'
      (omega (
        arith,
        of-≡ z _ o.there,
        of-≡ z' _ o'.there,
        add-law p1 (step u f1 p1 f2 p2),
        add-law p1 (step u' f1 p1 f2 p2),
        g.0,
        i.not_below,
        i'.not_below,
        sub-law p2 p1,
        one-zero (p2 -ℤ p1),
        of-≤ℤ p1 p2 (climbs u k z a),
      ))

  -- two points inside the edges: by the edges that are found for them, one edge for one font position
  module _ (u u' z z' : ℤ) (k k' : ℕ) (a : Around axis u k) (a' : Around axis u' k') (one : u ≡ u' → k ≡ k') (h : u ≤ℤ u') where
    -- an edge in front of the other's
    lower : k < k' → OnIt axis u k z ⊎ InFront axis u k z → OnIt axis u' k' z' ⊎ InFront axis u' k' z' → z ≤ℤ z'
    lower l w w' =
        to-≤ℤ z z'
        (omega (
          arith,
          of-≤ℤ _ _ (not_above u k z a w),
          of-≤ℤ _ _ (rise.pos k (k' - 1) (omega arith) (omega (arith, a'.inside))),
          of-≤ℤ _ _ (not_below u' k' z' a' w'),
        ))

    -- none behind it
    upper : k' < k → OnIt axis u k z ⊎ InFront axis u k z → ⊥
    upper l (inl o) =
        let r = of-≤ℤ _ _ (rise.fpos k' k (omega arith) a.inside) in
        let e : u ≡ u' = to-≡ u u' (omega (arith, of-≡ u _ o.same, of-≤ℤ u u' h, of-≤ℤ u' _ a'.reached, r)) in
        omega (arith, one e)
    upper l (inr o) =
        let r = of-≤ℤ _ _ (rise.fpos k' (k - 1) (omega arith) (omega (arith, a.inside))) in
        omega (arith, of-<ℤ _ u o.low, of-≤ℤ u u' h, of-≤ℤ u' _ a'.reached, r)

    -- the same one
    equal : k ≡ k' → OnIt axis u k z ⊎ InFront axis u k z → OnIt axis u' k' z' ⊎ InFront axis u' k' z' → z ≤ℤ z'
    equal q w (inl o') =
        let p : (edge_at axis k).pos ≡ (edge_at axis k').pos = ap (λ (i : ℕ). (edge_at axis i).pos) q in
        to-≤ℤ z z' (omega (arith, of-≤ℤ z _ (not_above u k z a w), of-≡ z' _ o'.there, of-≡ _ _ p))
    equal q (inl o) (inr o') =
        let p : fpos_at axis k ≡ fpos_at axis k' = ap (fpos_at axis) q in
        absurd (omega (arith, of-≡ u _ o.same, of-≤ℤ u u' h, of-<ℤ u' _ o'.high, of-≡ _ _ p))
    equal q (inr o) (inr o') = same-edge u u' k z z' a h o (subst (λ (i : ℕ). InFront axis u' i z') (sym q) o')

    pub inside-order : on_or_before axis u k ≡ At z → on_or_before axis u' k' ≡ At z' → z ≤ℤ z'
    inside-order e e' =
        let w = ways axis u k z a e in
        let w' = ways axis u' k' z' a' e' in
        ⊎_elim (λ (l : k < k'). lower l w w')
        (λ (l : k' ≤ k). ⊎_elim (λ (q : k' ≡ k). equal (sym q) w w') (λ (m : k' < k). absurd (upper m w)) (eq-or-lt_of_le l))
        (lt-or-le k k')

  -- ---- any two points
  module _ (u v u' v' z z' : ℤ) (h : u ≤ℤ u') (g : v ≤ℤ v') (e : place_of axis u v ≡ At z) (e' : place_of axis u' v' ≡ At z') where
    abbrev last : ℕ
    last = axis.len - 1

    -- an edge is there
    some : axis.len ≡ 0 → ⊥
    some q = stays-not (sym (place_none axis u v q) ∙ e)

    ends : (edge_at axis 0).pos ≤ℤ (edge_at axis last).pos
    ends =
        ⊎_elim (λ (l : 0 < axis.len). rise.pos 0 last (omega arith) (omega arith)) (λ (l : axis.len ≤ 0). absurd (some (omega arith)))
        (lt-or-le 0 axis.len)

    -- by which rule each is placed
    low-is : (x y w : ℤ) → le_z x (fpos_at axis 0) ≡ true → place_of axis x y ≡ At w → w ≡ (edge_at axis 0).pos +ℤ (y -ℤ (edge_at axis 0).opos)
    low-is x y w t p = moved-is _ _ _ w (sym (place-low axis x y some t) ∙ p)

    high_is : (x y w : ℤ) → le_z x (fpos_at axis 0) ≡ false → le_z (fpos_at axis last) x ≡ true → place_of axis x y ≡ At w
        → w ≡ (edge_at axis last).pos +ℤ (y -ℤ (edge_at axis last).opos)
    high_is x y w s t p = moved-is _ _ _ w (sym (place-high axis x y some s t) ∙ p)

    inner-is : (x y w : ℤ) → le_z x (fpos_at axis 0) ≡ false → le_z (fpos_at axis last) x ≡ false → place_of axis x y ≡ At w
        → on_or_before axis x (found axis x) ≡ At w
    inner-is x y w s t p = sym (place_inside axis x y some s t) ∙ p

    -- and what is inside lies between the positions of the first edge and of the last
    from_first : (x y w : ℤ) → le_z x (fpos_at axis 0) ≡ false → le_z (fpos_at axis last) x ≡ false → place_of axis x y ≡ At w → (edge_at axis 0).pos ≤ℤ w
    from_first x y w s t p =
        let a = around axis x (lies-inside axis x s t) in
        let k = found axis x in
        to-≤ℤ _ w (omega (
          arith,
          of-≤ℤ _ _ (rise.pos 0 (k - 1) (omega arith) (omega (arith, a.inside))),
          of-≤ℤ _ w
              (not_below x k w a (ways axis x k w a (inner-is x y w s t p))),
        ))

    to_last : (x y w : ℤ) → le_z x (fpos_at axis 0) ≡ false → le_z (fpos_at axis last) x ≡ false → place_of axis x y ≡ At w → w ≤ℤ (edge_at axis last).pos
    to_last x y w s t p =
        let a = around axis x (lies-inside axis x s t) in
        let k = found axis x in
        to-≤ℤ w _ (omega (
          arith,
          of-≤ℤ _ _ (rise.pos k last (omega (arith, a.inside)) (omega (arith, a.inside))),
          of-≤ℤ w _
              (not_above x k w a (ways axis x k w a (inner-is x y w s t p))),
        ))

    -- they keep their order: where one is at or below the first edge and the other is not, the one's original not above that edge's, and where the other is at
    -- or above the last
    -- and the one is not, the other's original not below that edge's
    pub keeps-order :
        (u ≤ℤ fpos_at axis 0 → fpos_at axis 0 <ℤ u' → v ≤ℤ (edge_at axis 0).opos)
        → (fpos_at axis 0 <ℤ u' → fpos_at axis last ≤ℤ u' → (u ≤ℤ fpos_at axis 0) ⊎ (u <ℤ fpos_at axis last) → (edge_at axis last).opos ≤ℤ v')
        → z ≤ℤ z'
    keeps-order below-first above-last =
        by (le_z u (fpos_at axis 0)) (le_z (fpos_at axis last) u) (le_z u' (fpos_at axis 0)) (le_z (fpos_at axis last) u') refl refl refl refl
      where
        over : (x : ℤ) → le_z x (fpos_at axis 0) ≡ false → fpos_at axis 0 <ℤ x
        over x q = to-<ℤ _ x (le-false x (fpos_at axis 0) q)

        by : (s t s' t' : Bool) → le_z u (fpos_at axis 0) ≡ s → le_z (fpos_at axis last) u ≡ t → le_z u' (fpos_at axis 0) ≡ s' → le_z (fpos_at axis last) u' ≡ t'
            → z ≤ℤ z'
        by true t true t' p q p' q' =
            let o = (edge_at axis 0).opos in
            let x = (edge_at axis 0).pos in
            to-≤ℤ z z'
            (omega (
              arith,
              of-≡ z _ (low-is u v z p e),
              of-≡ z' _ (low-is u' v' z' p' e'),
              add-law x (v -ℤ o),
              add-law x (v' -ℤ o),
              sub-law v o,
              sub-law v' o,
              of-≤ℤ v v' g,
            ))
        by true t false true p q p' q' =
            let o = (edge_at axis 0).opos in
            let x = (edge_at axis 0).pos in
            let o' = (edge_at axis last).opos in
            let x' = (edge_at axis last).pos in
            let l = below-first (is-≤ℤ u _ p) (over u' p') in
            let m = above-last (over u' p') (is-≤ℤ _ u' q') (inl (is-≤ℤ u _ p)) in
            to-≤ℤ z z'
            (omega (
              arith,
              of-≡ z _ (low-is u v z p e),
              of-≡ z' _ (high_is u' v' z' p' q' e'),
              add-law x (v -ℤ o),
              add-law x' (v' -ℤ o'),
              sub-law v o,
              sub-law v' o',
              of-≤ℤ v o l,
              of-≤ℤ o' v' m,
              of-≤ℤ x x' ends,
            ))
        by true t false false p q p' q' =
            let o = (edge_at axis 0).opos in
            let x = (edge_at axis 0).pos in
            let l = below-first (is-≤ℤ u _ p) (over u' p') in
            to-≤ℤ z z' (omega (arith, of-≡ z _ (low-is u v z p e), add-law x (v -ℤ o), sub-law v o, of-≤ℤ v o l, of-≤ℤ x z' (from_first u' v' z' p' q' e')))
        by false t true t' p q p' q' =
            absurd (omega (arith, of-<ℤ (fpos_at axis 0) u (over u p), of-≤ℤ u u' h, of-≤ℤ u' (fpos_at axis 0) (is-≤ℤ u' (fpos_at axis 0) p')))
        by false true false true p q p' q' =
            let o = (edge_at axis last).opos in
            let x = (edge_at axis last).pos in
            to-≤ℤ z z'
            (omega (
              arith,
              of-≡ z _ (high_is u v z p q e),
              of-≡ z' _ (high_is u' v' z' p' q' e'),
              add-law x (v -ℤ o),
              add-law x (v' -ℤ o),
              sub-law v o,
              sub-law v' o,
              of-≤ℤ v v' g,
            ))
        by false true false false p q p' q' =
            absurd (omega (arith, of-≤ℤ (fpos_at axis last) u (is-≤ℤ (fpos_at axis last) u q), of-≤ℤ u u' h, le-false (fpos_at axis last) u' q'))
        by false false false true p q p' q' =
            let o' = (edge_at axis last).opos in
            let x' = (edge_at axis last).pos in
            let m = above-last (over u' p') (is-≤ℤ _ u' q') (inr (to-<ℤ u (fpos_at axis last) (le-false (fpos_at axis last) u q))) in
            to-≤ℤ z z' (omega (
              arith,
              of-≡ z' _ (high_is u' v' z' p' q' e'),
              add-law x' (v' -ℤ o'),
              sub-law v' o',
              of-≤ℤ o' v' m,
              of-≤ℤ z x'
                  (to_last u v z p q e),
            ))
        by false false false false p q p' q' =
            inside-order u u' z z' (found axis u) (found axis u') (around axis u (lies-inside axis u p q)) (around axis u' (lies-inside axis u' p' q'))
            (ap (found axis)) h (inner-is u v z p q e)
            (inner-is u' v' z' p' q' e')

    -- so always where originals and `opos` are font positions scaled by one scale
    pub scaled-order : (s : ℤ) → dn s ≤ up s → v ≡ mul_fix u s → v' ≡ mul_fix u' s → ((i : ℕ) → i < axis.len → (edge_at axis i).opos ≡ mul_fix (fpos_at axis i) s)
        → z ≤ℤ z'
    scaled-order s positive a a' o =
        let l : 0 < axis.len = ⊎_elim (λ (l : 0 < axis.len). l) (λ (l : axis.len ≤ 0). absurd (some (omega arith))) (lt-or-le 0 axis.len) in
        keeps-order
        (λ x y. to-≤ℤ _ _ (omega (arith, of-≡ v _ a, of-≡ _ _ (o 0 l), of-≤ℤ _ _ (mul-grows u (fpos_at axis 0) s positive x))))
        (λ x y w. to-≤ℤ _ _ (omega (arith, of-≡ v' _ a', of-≡ _ _ (o last (omega arith)), of-≤ℤ _ _ (mul-grows (fpos_at axis last) u' s positive y))))
