-- Writing a stretch of a list, one place a turn.
use mathlib.Core.Path.{◌≡◌, refl, ◌∙◌}
use mathlib.Core.List.{List}
use mathlib.Core.Logic.{◌⊎◌, inl, inr}
use Prim.Native.Nat.{ℕ, ◌+◌, ◌≤◌, ◌<◌}
use native.Mathlib.Nat.{lt_irrefl, eq-or-lt_of_le, le_of_suc-le-suc}
use native.Mathlib.Numerals.{add-one}
use native.Mathlib.Omega.{arith}
use lib.ListN.{length, set, length-set}
use lib.Seq.{get_or-set_same, get_or-set_other}
use lib.IntN.{ℤ, pos}
use Rattle.weak_contour.specs.Contour.{at}
use Rattle.weak_contour.specs.Steps.{Wrote}

-- before the first turn nothing is written
pub wrote_none : (f : ℕ → ℤ) (a : ℕ) (c : List ℤ) → Wrote f a a c c
wrote_none f a c = record { len = refl; inside = λ i h k. absurd (lt_irrefl a (omega arith)); below = λ i h. refl; above = λ i h. refl }

-- a turn writes the place i
module _ (f : ℕ → ℤ) (a i : ℕ) (c d : List ℤ) (v : ℤ) (low : a ≤ i) (high : i < length c) (w : Wrote f a i c d) (e : v ≡ f i) where
  wrote-inside : (j : ℕ) → a ≤ j → (j ≡ i) ⊎ (j < i) → at (set d i v) j ≡ f j
  wrote-inside j h (inl q) = rw q (get_or-set_same d i v (pos 0) (omega (arith, w.len)) ∙ e)
  wrote-inside j h (inr q) = get_or-set_other d i j v (pos 0) (omega arith) ∙ w.inside j h q

  pub wrote-more : Wrote f a (i + 1) c (set d i v)
  wrote-more =
      record {
        len = length-set d i v ∙ w.len;
        inside = λ j h k. wrote-inside j h (eq-or-lt_of_le (le_of_suc-le-suc (rw add-one at k)));
        below = λ j h. get_or-set_other d i j v (pos 0) (omega arith) ∙ w.below j h;
        above = λ j h. get_or-set_other d i j v (pos 0) (omega arith) ∙ w.above j (omega arith);
      }

-- the same values may be given by another function
pub wrote_as : (f g : ℕ → ℤ) (a b : ℕ) (c d : List ℤ) → ((i : ℕ) → f i ≡ g i) → Wrote f a b c d → Wrote g a b c d
wrote_as f g a b c d h w = record { len = w.len; inside = λ i l k. w.inside i l k ∙ h i; below = w.below; above = w.above }
