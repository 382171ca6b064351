-- A contour with one touched point: what the shift makes of the others.
use mathlib.Core.Path.{◌≡◌, refl, ◌∙◌}
use mathlib.Core.Bool.{Bool, true, false, cond}
use mathlib.Core.List.{List}
use Prim.Native.Nat.{ℕ}
use native.Mathlib.Omega.{arith}
use lib.IntN.{ℤ, ◌+ℤ◌, ◌-ℤ◌}
use Rattle.signed.specs.Equality.{eq_z}
use Rattle.signed.proofs.Signed.{eq_z-yes, eq_z-no, same}
use Rattle.signed.proofs.Rules.{eq-add-of-sub}
use Rattle.weak_contour.specs.Contour.{at, shifted_at}
use Rattle.weak_contour.specs.Steps.{Wrote, moved_by}

-- the touched point comes to where it is
pub shifted-own : (o c : List ℤ) (p : ℕ) → shifted_at o c p p ≡ at c p
unfolding shifted_at
shifted-own o c p = by (eq_z (at c p) (at o p))
  where
    by : (b : Bool) → cond b (at c p) (at o p +ℤ (at c p -ℤ at o p)) ≡ at c p
    by true = refl
    by false = same (omega (arith, eq-add-of-sub (at o p +ℤ (at c p -ℤ at o p)) (at o p) (at c p) (at o p) refl))

-- delta 0 leaves all points
pub shifted-still : (o c : List ℤ) (p a b : ℕ) → at c p ≡ at o p → Wrote (shifted_at o c p) a b c c
unfolding shifted_at
shifted-still o c p a b e = record { len = refl; inside = λ i l h. rw (eq_z-yes (at c p) (at o p) e); below = λ i h. refl; above = λ i l. refl }

-- otherwise they are moved
pub shifted-moved : (o c d : List ℤ) (p a b : ℕ) → (at c p ≡ at o p → ⊥) → Wrote (moved_by o (at c p -ℤ at o p)) a b c d → Wrote (shifted_at o c p) a b c d
unfolding shifted_at moved_by
shifted-moved o c d p a b n w = record { len = w.len; inside = λ i l h. w.inside i l h ∙ moved i; below = w.below; above = w.above }
  where
    moved : (i : ℕ) → moved_by o (at c p -ℤ at o p) i ≡ shifted_at o c p i
    moved i = rw (eq_z-no (at c p) (at o p) n)
