-- The refusals of a drag: what is not refused, and that they are the full alignment's where the point is there and touched.
use mathlib.Core.Path.{◌≡◌, refl, sym, ◌∙◌}
use mathlib.Core.Bool.{true}
use mathlib.Core.List.{List}
use Prim.Native.Nat.{ℕ, ◌<◌}
use borrow.Author.Tests.{lt-ltb, le-ltb}
use mathlib.Core.Bool.{false}
use lib.Dec.{ltb}
use lib.ListN.{length}
use lib.IntN.{ℤ}
use native.Mathlib.Omega.{arith}
use Rattle.refusals.specs.Refusal.{refusal, bad_index}
use Rattle.refusals.proofs.Tests.{all_hold, and_second}
use Rattle.weak_contour.specs.Contour.{is_touched}
use Rattle.weak.specs.Weak.{list_tests, number_tests, weak_tests}
use Rattle.weak_known.proofs.Inserted.{test-within}
use Rattle.weak_drag.specs.Drag.{is_there, drag_tests}

-- ---- the point
-- it is not there
pub not_there : (t : List ℕ) (p : ℕ) → (p < length t → ⊥) → false ≡ is_there t p
unfolding is_there
not_there t p n = rw (le-ltb p (length t) (omega arith))

-- it is: its mark decides
pub there : (t : List ℕ) (p : ℕ) → p < length t → is_touched t p ≡ is_there t p
unfolding is_there
there t p h = rw (lt-ltb p (length t) h)

pub there-touched : (t : List ℕ) (p : ℕ) → is_there t p ≡ true → is_touched t p ≡ true
unfolding is_there
there-touched t p e = and_second (ltb p (length t)) (is_touched t p) e

-- ---- the tests
pub refused-alike : (o c : List ℤ) (t es : List ℕ) (p : ℕ) → is_there t p ≡ true → refusal (drag_tests o c t es p) ≡ refusal (weak_tests o c t es)
refused-alike o c t es p e = test-within (list_tests o c t es) (number_tests o c t es) bad_index (is_there t p) e

-- a drag that is not refused: the point is there and touched
pub drag-there : (o c : List ℤ) (t es : List ℕ) (p : ℕ) → refusal (drag_tests o c t es p) ≡ 0 → is_there t p ≡ true
drag-there o c t es p e = (all_hold (drag_tests o c t es p) refl e).1.1.1.1.0

-- and the outline is one that the full alignment accepts
pub drag-accepted : (o c : List ℤ) (t es : List ℕ) (p : ℕ) → refusal (drag_tests o c t es p) ≡ 0 → refusal (weak_tests o c t es) ≡ 0
drag-accepted o c t es p e = sym (refused-alike o c t es p (drag-there o c t es p e)) ∙ e
