-- Demand 3 of a drag: what `align_weak_points` promises of every untouched point holds of those that depend on the dragged one.
use Rattle.std.specs.Prelude.{◌≡◌, true, List, ℕ, ℤ, ◌≤ℤ◌}
use Rattle.weak_contour.specs.Contour.{at, refs, first_of, second_of}
use Rattle.weak.specs.Faithful.{Led, Follows, Amid, InOrder, KeepsOrder}
use Rattle.weak_drag.specs.Drag.{depends}

-- of the currents d at the end of a drag of the point x
pub record DragDemand3 (o c : List ℤ) (t es : List ℕ) (x : ℕ) (d : List ℤ) : Type 0 where
  -- a point that depends on x, on a contour with two or more touched points, follows its references
  pub follows : (i : ℕ) → depends t es x i ≡ true → (l : Led t es i) → Follows o c t l.contour i (at d i)
  -- of two that do, between neighbouring touched points in order, what is not higher ends not higher, but for the exception
  pub in_order : (p q : ℕ) → InOrder o c p q → (i j : ℕ) → depends t es x i ≡ true → depends t es x j ≡ true → Amid t es p q i → Amid t es p q j → at o i ≤ℤ at o j
      → KeepsOrder (at o i) (at o j) (at o (first_of o (refs p q))) (at o (second_of o (refs p q))) (at d i) (at d j)
  -- and equal originals end equal
  pub equal : (p q : ℕ) → InOrder o c p q → (i j : ℕ) → depends t es x i ≡ true → depends t es x j ≡ true → Amid t es p q i → Amid t es p q j → at o i ≡ at o j → at d i ≡ at d j
