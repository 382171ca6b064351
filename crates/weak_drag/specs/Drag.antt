-- One point dragged (document 02, request #111): which points depend on the touched point p, and what is left.
use Rattle.std.specs.Prelude.{◌≡◌, Bool, false, cond, ◌&&◌, ◌||◌, not, List, ◌∷◌, ◌++◌, ℕ, ltb, eqb, length, ℤ}
use Rattle.std.proofs.Math.Option.{Option, some, none}
use Rattle.refusals.specs.Refusal.{Test, ◌unless◌, refusal, answered, bad_index}
use Rattle.weak_contour.specs.Contour.{at, Contour, is_touched, References, references}
use Rattle.weak.specs.Weak.{list_tests, number_tests, contour_of, aligned_at, list_of}

-- ---- what depends on p
-- p is one of the references, or the only touched point of the contour, which is both
unfoldable pub is_reference : ℕ → Option References → Bool
is_reference p none = false
is_reference p (some r) = eqb r.before p || eqb r.behind p

-- the point i of the contour that was found, or of none
unfoldable pub refers_on : List ℕ → Option Contour → ℕ → ℕ → Bool
refers_on t none p i = false
refers_on t (some k) p i = is_reference p (references t k i)

-- the point i depends on p: it is untouched, and p is a reference of it
unfoldable pub depends : List ℕ → List ℕ → ℕ → ℕ → Bool
depends t es p i = not (is_touched t i) && refers_on t (contour_of 0 es i) p i

-- ---- the refusals
-- the point is there and touched
unfoldable pub is_there : List ℕ → ℕ → Bool
is_there t p = ltb p (length t) && is_touched t p

-- the tests of a drag: those of the full alignment, and behind the contour ends that of the point
abbrev pub drag_tests : List ℤ → List ℤ → List ℕ → List ℕ → ℕ → List Test
drag_tests o c t es p = list_tests o c t es ++ (bad_index unless is_there t p ∷ number_tests o c t es)

-- ---- what is left
-- where the point i comes to: what the full alignment gives it where it depends on p, else its current
unfoldable pub dragged_at : List ℤ → List ℤ → List ℕ → List ℕ → ℕ → ℕ → ℤ
dragged_at o c t es p i = cond (depends t es p i) (aligned_at o c t es i) (at c i)

-- the currents at the end: a refusal writes nothing
unfoldable pub dragged : List ℤ → List ℤ → List ℕ → List ℕ → ℕ → List ℤ
dragged o c t es p = answered (refusal (drag_tests o c t es p)) (λ _. c) (list_of (dragged_at o c t es p) 0 (length c))

-- what `drag_point` owes its caller: the answer a, 0 or the number of a refusal, and the currents d that it leaves
pub record Dragged (o c : List ℤ) (t es : List ℕ) (p a : ℕ) (d : List ℤ) : Type 0 where
  pub answer : a ≡ refusal (drag_tests o c t es p)
  pub currents : d ≡ dragged o c t es p
