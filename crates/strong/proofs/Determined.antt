-- What a call that is not refused makes of a point: it stays, or it comes to a position; and that two points keep their order.
use mathlib.Core.Path.{◌≡◌, refl, sym, ap, subst, ◌∙◌}
use mathlib.Core.Bool.{Bool, true, false, cond, ◌||◌}
use mathlib.Core.List.{List}
use mathlib.Core.Logic.{◌⊎◌}
use Prim.Native.Nat.{ℕ, ◌-◌, ◌<◌}
use native.Mathlib.Omega.{arith}
use lib.ListN.{length}
use lib.IntN.{ℤ, ◌+ℤ◌, ◌-ℤ◌}
use lib.Signed.{le_z, ◌≤ℤ◌, ◌<ℤ◌}
use Rattle.signed.specs.Equality.{eq_z}
use Rattle.signed.proofs.Choices.{cond-true, cond-false}
use Rattle.axis.specs.declared.edge.Axis.{Axis}
use Rattle.axis.specs.Edge.{edge_at}
use Rattle.axis.specs.Limits.{most_pos}
use Rattle.axis.specs.Refusals.{within}
use Rattle.axis.proofs.Tests.{every-at}
use Rattle.weak_contour.specs.Contour.{at, is_touched}
use Rattle.fixed.specs.Divide.{too_steep}
use Rattle.strong.specs.declared.place.Place.{Place}
use Rattle.strong.specs.declared.place.Place.TheVariants.{Stays, At, Beyond}
use Rattle.strong.specs.Strong.{fpos_at, found, moved_with, between, on_or_before, place_of, strong_at, current_after, is_placed, all_placed}
use Rattle.strong.specs.Steps.{Rising, Shorts}
use Rattle.strong.proofs.Places.{step, place-low, place-high, place_inside}
use Rattle.strong.proofs.Order.{keeps-order}

-- ---- a point that is placed by edges comes to a position
pub record Comes (p : Place) : Type 0 where
  pub to : ℤ
  pub is : p ≡ At to

beyond-not : {A : Type 0} → is_placed Beyond ≡ true → A
unfolding is_placed
beyond-not e = absurd (let n : ◌≡◌ {A = ℕ} 0 1 = cc in omega arith)

moved-comes : (v o p : ℤ) → is_placed (moved_with v o p) ≡ true → Comes (moved_with v o p)
unfolding moved_with
moved-comes v o p e = by (within most_pos (p +ℤ (v -ℤ o))) e
  where
    by : (t : Bool) → is_placed (cond t (At (p +ℤ (v -ℤ o))) Beyond) ≡ true → Comes (cond t (At (p +ℤ (v -ℤ o))) Beyond)
    by true q = record { to = p +ℤ (v -ℤ o); is = refl }
    by false q = beyond-not q

found-comes : (axis : Axis) (u : ℤ) (k : ℕ) → is_placed (on_or_before axis u k) ≡ true → Comes (on_or_before axis u k)
unfolding on_or_before between
found-comes axis u k e =
    let f1 = fpos_at axis (k - 1) in
    let p1 = (edge_at axis (k - 1)).pos in
    let f2 = fpos_at axis k in
    let p2 = (edge_at axis k).pos in
    by p2 (p1 +ℤ step u f1 p1 f2 p2) (eq_z u f2) (too_steep (p2 -ℤ p1) (f2 -ℤ f1)) e
  where
    by : (x y : ℤ) (s t : Bool) → is_placed (cond s (At x) (cond t Beyond (At y))) ≡ true → Comes (cond s (At x) (cond t Beyond (At y)))
    by x y true t q = record { to = x; is = refl }
    by x y false true q = beyond-not q
    by x y false false q = record { to = y; is = refl }

pub comes : (axis : Axis) (u v : ℤ) → (axis.len ≡ 0 → ⊥) → is_placed (place_of axis u v) ≡ true → Comes (place_of axis u v)
comes axis u v some e = by (le_z u (fpos_at axis 0)) (le_z (fpos_at axis (axis.len - 1)) u) refl refl
  where
    by-rule : {p : Place} → place_of axis u v ≡ p → (is_placed p ≡ true → Comes p) → Comes (place_of axis u v)
    by-rule {p} q f = subst Comes (sym q) (f (ap is_placed (sym q) ∙ e))

    by : (s t : Bool) → le_z u (fpos_at axis 0) ≡ s → le_z (fpos_at axis (axis.len - 1)) u ≡ t → Comes (place_of axis u v)
    by true t p q = by-rule (place-low axis u v some p) (moved-comes _ _ _)
    by false true p q = by-rule (place-high axis u v some p q) (moved-comes _ _ _)
    by false false p q = by-rule (place_inside axis u v some p q) (found-comes axis u (found axis u))

-- ---- the points of an outline
module _ (axis : Axis) (f o c : List ℤ) (t w : List ℕ) where
  -- a point that is touched or weak stays, and another is placed by the edges
  pub stays : (i : ℕ) → (is_touched t i || is_touched w i) ≡ true → strong_at axis f o t w i ≡ Stays
  unfolding strong_at
  stays i e = cond-true _ _ _ e

  pub placed : (i : ℕ) → (is_touched t i || is_touched w i) ≡ false → strong_at axis f o t w i ≡ place_of axis (at f i) (at o i)
  unfolding strong_at
  placed i e = cond-false _ _ _ e

  -- two of those in one order by font positions and originals end in it, as `keeps-order` has it
  module _ (rise : Rising axis) (short : Shorts axis) (some : axis.len ≡ 0 → ⊥) (all : all_placed axis f o t w ≡ true) where
    -- the position that such a point comes to
    position : (i : ℕ) → i < length f → (is_touched t i || is_touched w i) ≡ false → Comes (place_of axis (at f i) (at o i))
    unfolding all_placed
    position i h e = comes axis (at f i) (at o i) some (ap is_placed (sym (placed i e)) ∙ every-at _ i (length f) all h)

    current-is : (i : ℕ) (e : (is_touched t i || is_touched w i) ≡ false) (p : Comes (place_of axis (at f i) (at o i)))
        → current_after (at c i) (strong_at axis f o t w i) ≡ p.to
    unfolding current_after
    current-is i e p = ap (current_after (at c i)) (placed i e ∙ p.is)

    pub points-order : (i j : ℕ) → i < length f → j < length f → (is_touched t i || is_touched w i) ≡ false → (is_touched t j || is_touched w j) ≡ false
        → at f i ≤ℤ at f j → at o i ≤ℤ at o j
        → (at f i ≤ℤ fpos_at axis 0 → fpos_at axis 0 <ℤ at f j → at o i ≤ℤ (edge_at axis 0).opos)
        → (fpos_at axis 0 <ℤ at f j → fpos_at axis (axis.len - 1) ≤ℤ at f j → (at f i ≤ℤ fpos_at axis 0) ⊎ (at f i <ℤ fpos_at axis (axis.len - 1))
        → (edge_at axis (axis.len - 1)).opos ≤ℤ at o j)
        → current_after (at c i) (strong_at axis f o t w i) ≤ℤ current_after (at c j) (strong_at axis f o t w j)
    points-order i j hi hj ei ej u v below above =
        let p = position i hi ei in
        let q = position j hj ej in
        let l = keeps-order axis rise short (at f i) (at o i) (at f j) (at o j) p.to q.to u v p.is q.is below above in
        subst (λ (z : ℤ). z ≤ℤ current_after (at c j) (strong_at axis f o t w j)) (sym (current-is i ei p))
        (subst (λ (z : ℤ). p.to ≤ℤ z) (sym (current-is j ej q)) l)
