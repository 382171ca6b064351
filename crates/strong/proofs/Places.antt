-- Where a point comes to, case by case; and that the sums, the quotient and the product fit.
use mathlib.Core.Path.{◌≡◌}
use mathlib.Core.Bool.{true, false}
use mathlib.Core.List.{List}
use Prim.Native.Nat.{ℕ, ◌+◌, ◌-◌, ◌<◌}
use native.Mathlib.Omega.{arith}
use lib.ListN.{get_or}
use lib.IntN.{ℤ, nat_abs, ◌+ℤ◌, ◌-ℤ◌}
use lib.Signed.{le_z, ◌<ℤ◌}
use borrow.Author.Tests.{ne_eqb, eq-eqb, lt-ltb}
use mir.Syntax.{w32}
use mir.Val.{SFits}
use Rattle.signed.specs.Range.{Between}
use Rattle.signed.proofs.Signed.{nat_abs-is, one-zero, sub-law, add-law, to-sfits, eq_z-yes, eq_z-no}
use Rattle.signed.proofs.Order.{le-false, of-<ℤ, to-<ℤ}
use Rattle.signed.proofs.Choices.{cond-true, cond-false}
use Rattle.axis.specs.declared.edge.Axis.{Axis}
use Rattle.axis.specs.Edge.{edge_at}
use Rattle.axis.specs.Handed.{Short}
use Rattle.axis.specs.Limits.{most_pos}
use Rattle.axis.specs.Refusals.{within}
use Rattle.fixed.specs.Point.{mul_fix, div_fix}
use Rattle.fixed.specs.Divide.{too_steep}
use Rattle.fixed.proofs.Interpolation as Interpolation
use Rattle.weak_contour.specs.Contour.{at}
use Rattle.strong.specs.declared.place.Place.TheVariants.{Stays, At, Beyond}
use Rattle.strong.specs.Strong.{fpos_at, found, moved_with, between, with_edge, on_or_before, place_of, strong_at}
use Rattle.strong.specs.Steps.{Inside}

-- ---- with an edge
module _ (v opos p : ℤ) where
  pub moved_at : within most_pos (p +ℤ (v -ℤ opos)) ≡ true → moved_with v opos p ≡ At (p +ℤ (v -ℤ opos))
  unfolding moved_with
  moved_at e = cond-true _ _ _ e

  pub moved-beyond : within most_pos (p +ℤ (v -ℤ opos)) ≡ false → moved_with v opos p ≡ Beyond
  unfolding moved_with
  moved-beyond e = cond-false _ _ _ e

-- ---- between two
module _ (u f1 p1 f2 p2 : ℤ) where
  -- how far behind the first's position
  abbrev pub step : ℤ
  step = mul_fix (u -ℤ f1) (div_fix (p2 -ℤ p1) (f2 -ℤ f1))

  pub between-steep : too_steep (p2 -ℤ p1) (f2 -ℤ f1) ≡ true → between u f1 p1 f2 p2 ≡ Beyond
  unfolding between
  between-steep e = cond-true _ _ _ e

  pub between-at : too_steep (p2 -ℤ p1) (f2 -ℤ f1) ≡ false → between u f1 p1 f2 p2 ≡ At (p1 +ℤ step)
  unfolding between
  between-at e = cond-false _ _ _ e

  module _ (low : f1 <ℤ u) (high : u <ℤ f2) where
    -- the font positions differ
    pub some : 0 < nat_abs (f2 -ℤ f1)
    some = omega (arith, nat_abs-is (f2 -ℤ f1), sub-law f2 f1, of-<ℤ f1 u low, of-<ℤ u f2 high)

    module _ (a : Short f1) (b : Short f2) where
      -- it is no farther than the second's position, and on that side
      pub inside : Interpolation.Inside (p2 -ℤ p1) step
      inside =
          Interpolation.inside-line (u -ℤ f1) (p2 -ℤ p1) (f2 -ℤ f1) (omega (arith, sub-law u f1, of-<ℤ f1 u low))
          (omega (arith, sub-law u f1, sub-law f2 f1, of-<ℤ u f2 high))
          (omega (arith, sub-law f2 f1, a, b))

      -- so that it fits, and the sum too
      module _ (c : Between most_pos most_pos p1) (d : Between most_pos most_pos p2) where
        pub step_fits : SFits w32 step
        step_fits = to-sfits w32 step (omega (arith, inside, one-zero (p2 -ℤ p1), sub-law p2 p1, c, d))

        pub sum-between : Between most_pos most_pos (p1 +ℤ step)
        sum-between = omega (arith, inside, one-zero (p2 -ℤ p1), sub-law p2 p1, add-law p1 step, c, d)

-- ---- by which rule
module _ (axis : Axis) (u v : ℤ) where
  pub place_none : axis.len ≡ 0 → place_of axis u v ≡ Stays
  unfolding place_of
  place_none e = rw (eq-eqb axis.len 0 e)

  module _ (some : axis.len ≡ 0 → ⊥) where
    pub place-low : le_z u (fpos_at axis 0) ≡ true → place_of axis u v ≡ with_edge axis 0 v
    unfolding place_of
    place-low e = rw (ne_eqb axis.len 0 some, e)

    pub place-high : le_z u (fpos_at axis 0) ≡ false → le_z (fpos_at axis (axis.len - 1)) u ≡ true → place_of axis u v ≡ with_edge axis (axis.len - 1) v
    unfolding place_of
    place-high e g = rw (ne_eqb axis.len 0 some, e, g)

    pub place_inside : le_z u (fpos_at axis 0) ≡ false → le_z (fpos_at axis (axis.len - 1)) u ≡ false → place_of axis u v ≡ on_or_before axis u (found axis u)
    unfolding place_of
    place_inside e g = rw (ne_eqb axis.len 0 some, e, g)

-- what the tests say there
pub lies-inside : (axis : Axis) (u : ℤ) → le_z u (fpos_at axis 0) ≡ false → le_z (fpos_at axis (axis.len - 1)) u ≡ false → Inside axis u
lies-inside axis u e g = record { above = to-<ℤ _ _ (le-false u (fpos_at axis 0) e); below = to-<ℤ _ _ (le-false (fpos_at axis (axis.len - 1)) u g) }

-- on the edge that is found, and in front of it
module _ (axis : Axis) (u : ℤ) (k : ℕ) where
  pub place-on : u ≡ fpos_at axis k → on_or_before axis u k ≡ At (edge_at axis k).pos
  unfolding on_or_before
  place-on e = cond-true _ _ _ (eq_z-yes u (fpos_at axis k) e)

  pub place-before : (u ≡ fpos_at axis k → ⊥) → on_or_before axis u k
      ≡ between u (fpos_at axis (k - 1)) (edge_at axis (k - 1)).pos (fpos_at axis k) (edge_at axis k).pos
  unfolding on_or_before
  place-before n = cond-false _ _ _ (eq_z-no u (fpos_at axis k) n)

-- ---- a point of an outline
module _ (axis : Axis) (f o : List ℤ) (t w : List ℕ) (i : ℕ) where
  -- touched, weak, or neither
  pub strong-touched : (get_or t i 0 ≡ 0 → ⊥) → strong_at axis f o t w i ≡ Stays
  unfolding strong_at
  strong-touched n = rw (lt-ltb 0 (get_or t i 0) (omega (arith, n)))

  module _ (e : get_or t i 0 ≡ 0) where
    pub strong-weak : (get_or w i 0 ≡ 0 → ⊥) → strong_at axis f o t w i ≡ Stays
    unfolding strong_at
    strong-weak n = rw (e, lt-ltb 0 (get_or w i 0) (omega (arith, n)))

    pub strong-placed : get_or w i 0 ≡ 0 → strong_at axis f o t w i ≡ place_of axis (at f i) (at o i)
    unfolding strong_at
    strong-placed g = rw (e, g)
